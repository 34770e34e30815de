-- Reading from tokens: what was read, and the tokens behind it. Where nothing can be read, the first of those is the token at fault.
use Rattle.std.specs.Prelude.{ℕ, zero, suc, ◌-◌, Bool, true, false, List, [], ◌∷◌, Option, Some, None, if◌then◌else◌}
use Rattle.std.specs.Str.{bytes_eq}
use Rattle.script.specs.Tokens.{Token}

-- the next token's octets, none at the end
abbrev pub octets_of : List Token → List ℕ
octets_of [] = []
octets_of (token ∷ tokens) = token.octets

abbrev pub behind : List Token → List Token
behind [] = []
behind (token ∷ tokens) = tokens

-- how many octets of the line there are from the next token on
abbrev pub left_of : List Token → ℕ
left_of [] = 0
left_of (token ∷ tokens) = token.left

abbrev pub is_end : List Token → Bool
is_end [] = true
is_end (token ∷ tokens) = false

-- a rule of a grammar
abbrev pub Rule : Type 0 → Type 0
Rule A = List Token → Option A × List Token

abbrev pub gives : {A : Type 0} → A → Rule A
gives x = λ tokens. (Some x, tokens)

abbrev pub fault : {A : Type 0} → Rule A
fault = λ tokens. (None, tokens)

abbrev pub continued : {A B : Type 0} → (A → Rule B) → Option A → Rule B
continued reads None = fault
continued reads (Some x) = reads x

infixl 10 ◌>>=◌
abbrev pub ◌>>=◌ : {A B : Type 0} → Rule A → (A → Rule B) → Rule B
first >>= second = λ tokens. continued second (first tokens).0 (first tokens).1

-- a token that stands for something
abbrev pub read_token : {A : Type 0} → Option A → Rule A
read_token None = fault
read_token (Some x) = λ tokens. (Some x, behind tokens)

abbrev pub read_or : {A : Type 0} → A → Option A → Rule A
read_or otherwise None = gives otherwise
read_or otherwise (Some x) = λ tokens. (Some x, behind tokens)

unfoldable pub one : {A : Type 0} → (List ℕ → Option A) → Rule A
one meaning = λ tokens. read_token (meaning (octets_of tokens)) tokens

-- such a token, or another thing where none is next
unfoldable pub optional : {A : Type 0} → (List ℕ → Option A) → A → Rule A
optional meaning otherwise = λ tokens. read_or otherwise (meaning (octets_of tokens)) tokens

abbrev pub is_next : List ℕ → List Token → Bool
is_next text tokens = bytes_eq (octets_of tokens) text

-- where a token of this text is next, what stands behind it, and else another thing
abbrev pub after : {A : Type 0} → List ℕ → Rule A → Rule A → Rule A
after text reads otherwise = λ tokens. if is_next text tokens then reads (behind tokens) else otherwise tokens

unfoldable pub the : List ℕ → Rule (Unit {0})
the text = after text (gives tt) fault

-- up to so many items more, each behind a separator; an item is read with those before it, and gives them all
unfoldable pub more : {A : Type 0} → ℕ → List ℕ → (A → Rule A) → A → Rule A
more zero separator item items = gives items
more (suc n) separator item items = after separator (item items >>= more n separator item) (gives items)

-- one to so many items
unfoldable pub listed : {A : Type 0} → ℕ → List ℕ → (A → Rule A) → A → Rule A
listed most separator item none = item none >>= more (most - 1) separator item
