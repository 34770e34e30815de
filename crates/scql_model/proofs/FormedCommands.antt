-- What is read of octets as a command is well-formed.
use Rattle.std.proofs.Common.{◌≡◌, ◌≤◌, ◌<◌, ◌+◌, ◌%◌, ℕ, zero, suc, ◌==◌, not, ◌&&◌, ◌||◌, Bool, true, false, List, [], ◌∷◌, ◌++◌, length, take, get_or, Option, Some, None, is_some, Result, Ok, Err, if◌then◌else◌, refl, ap, subst, sym, ◌∙◌, arith}
use Rattle.std.specs.Prelude.{IfSome, IfOk, map, slice_get}
use Rattle.std.specs.List.{list_all, find, concat, Contains}
use Rattle.std.specs.Result.{result_ok}
use Rattle.std.proofs.lemmas.Option.{none-some, same_Some}
use Rattle.std.proofs.lemmas.Bool.{false≢true}
use Rattle.scql_base.specs.declared.words.StatusWord.{StatusWord}
use Rattle.scql_base.specs.Words.{wrong_data, wrong_length, wrong_parameters, channel_not_supported, chaining_not_supported, instruction_not_supported}
use Rattle.scql_base.specs.declared.operation.Command.{Command}
use Rattle.scql_base.specs.declared.operation.OperationKind.{OperationKind}
use Rattle.scql_base.specs.declared.operation.OperationKind.TheVariants as kind
use Rattle.scql_model.specs.Machine.{Chain}
use Rattle.scql_base.specs.declared.operation.Line.{Line}
use Rattle.scql_base.specs.declared.operation.Takes.{Takes}
use Rattle.scql_base.specs.declared.operation.Takes.TheVariants.{Nothing, DataField, LeAlone}
use Rattle.scql_model.specs.Operations.{is_le_alone, WantsLe, operations, has_instruction, has_secrets, is_for_channel, line_of, comes_in_parts, kind_of}
use Rattle.scql_model.specs.Parameters.{operation_in}
use Rattle.scql_model.specs.WellFormed.{IsWellFormed}
use Rattle.scql_model.specs.Refusals.{◌>>=◌, or_refused, provided}
use Rattle.scql_model.specs.Form.{class_of, is_chained, is_open, channel_of, Tail, le_of, data_of, tail_of, takes_case, is_case_3, data_in, channel_asked, line_on, taken_in, parts_of, Form, refused, refused_on, part_on, a_command, as_command, formed_on, formed, part_in, command_in, form_of}
use Rattle.scql_model.proofs.FieldLaws.{AreOctets}
use Rattle.scql_model.proofs.OperationFields.{has_channel, read-operation}

pub both : (a b : Bool) → a && b ≡ true → (a ≡ true) × (b ≡ true)
both true b is = (refl, is)
both false b is = absurd (false≢true is)

-- Le is 1 to 256 where it is read of an octet
abbrev IsLe : Option ℕ → Type 0
IsLe le = IfSome le (λ le. (1 ≤ le) × (le ≤ 256))

le-read : (octet : ℕ) → octet < 256 → IsLe (Some (le_of octet))
le-read octet within = go (octet == 0) refl
  where
    go : (none : Bool) → (octet == 0) ≡ none → IsLe (Some (if none then 256 else octet))
    go true is = (omega arith, omega arith)
    go false is = (grind (arith, is), omega (arith, within))

data-read : (lc : ℕ) (rest : List ℕ) (tail : Tail) → AreOctets rest → data_of lc rest ≡ Some tail → IsLe tail.le
data-read lc rest tail octets is = go (length rest == lc) (length rest == lc + 1) is
  where
    go : (alone with_le : Bool) → (if alone then Some (record { body = Some rest; le = None }) else if with_le then Some (record { body = Some (take lc rest); le = Some (le_of (get_or rest lc 0)) }) else None) ≡ Some tail → IsLe tail.le
    go true with_le is = subst (λ (t : Tail). IsLe t.le) (same_Some _ tail is) tt
    go false true is = subst (λ (t : Tail). IsLe t.le) (same_Some _ tail is) (le-read (get_or rest lc 0) (octets lc))
    go false false is = absurd (none-some tail is)

tail-read : (after : List ℕ) (tail : Tail) → AreOctets after → tail_of after ≡ Some tail → IsLe tail.le
tail-read [] tail octets is = subst (λ (t : Tail). IsLe t.le) (same_Some _ tail is) tt
tail-read (le ∷ []) tail octets is = subst (λ (t : Tail). IsLe t.le) (same_Some _ tail is) (le-read le (octets 0))
tail-read (lc ∷ x ∷ rest) tail octets is = go (lc == 0) is
  where
    go : (none : Bool) → (if none then None else data_of lc (x ∷ rest)) ≡ Some tail → IsLe tail.le
    go true is = absurd (none-some tail is)
    go false is = data-read lc (x ∷ rest) tail (λ i. octets (suc i)) is

-- which operations take Le alone
abbrev pub wants_le : OperationKind → Bool
wants_le kind.Fetch = true
wants_le kind.FetchNext = true
wants_le (kind.OpenChannel number) = number == 0
wants_le kind.GetResponse = true
wants_le asked = false

pub wants_le-of : (asked : OperationKind) → WantsLe asked → wants_le asked ≡ true
wants_le-of asked is = go is.0 is.1 is.2
  where
    so : (k : OperationKind) → wants_le k ≡ true → k ≡ asked → wants_le asked ≡ true
    so k wants same = subst (λ (k : OperationKind). wants_le k ≡ true) same wants

    go : (k : ℕ) → k < 4 → get_or (kind.Fetch ∷ kind.FetchNext ∷ kind.OpenChannel 0 ∷ kind.GetResponse ∷ []) k asked ≡ asked → wants_le asked ≡ true
    go zero lt same = so kind.Fetch refl same
    go (suc zero) lt same = so kind.FetchNext refl same
    go (suc (suc zero)) lt same = so (kind.OpenChannel 0) refl same
    go (suc (suc (suc zero))) lt same = so kind.GetResponse refl same
    go (suc (suc (suc (suc k)))) lt same = absurd (omega (arith, lt))

-- a line of a table as the operations have it
abbrev pub is_sound : Line → Bool
is_sound l = has_channel l.kind && (not (wants_le l.kind) || is_le_alone l.takes)

le-wanted : (wants : Bool) (takes : Takes) (tail : Tail) → not wants || is_le_alone takes ≡ true → takes_case takes tail ≡ true → wants ≡ true → is_some tail.le ≡ true
le-wanted false takes tail sound taken is = absurd (false≢true is)
le-wanted true Nothing tail sound taken is = absurd (false≢true sound)
le-wanted true DataField tail sound taken is = absurd (false≢true sound)
le-wanted true LeAlone tail sound taken is = (both _ (is_some tail.le) taken).1

-- what is found passes its test, and each test that all pass
found-passes : {A : Type 0} (p q : A → Bool) (xs : List A) (x : A) → list_all q xs ≡ true → find p xs ≡ Some x → (p x ≡ true) × (q x ≡ true)
found-passes p q [] x all is = absurd (none-some x is)
found-passes p q (y ∷ ys) x all is = go (p y) refl is (found-passes p q ys x (both (q y) (list_all q ys) all).1)
  where
    go : (b : Bool) → p y ≡ b → (if b then Some y else find p ys) ≡ Some x → (find p ys ≡ Some x → (p x ≡ true) × (q x ≡ true)) → (p x ≡ true) × (q x ≡ true)
    go true passes is later = subst (λ y. (p y ≡ true) × (q y ≡ true)) (same_Some y x is) (passes, (both (q y) (list_all q ys) all).0)
    go false passes is later = later is

pub refused-not : {A P : Type 0} (word : StatusWord) (y : A) → Err word ≡ Ok y → P
refused-not word y is = absurd (none-some y (ap result_ok is))

pub same_Ok : {A : Type 0} (x y : A) → (let o : Result A StatusWord = Ok x in o) ≡ Ok y → x ≡ y
same_Ok x y is = same_Some x y (ap result_ok is)

-- a value came of what went before
pub bound : {A B P : Type 0} (r : Result A StatusWord) (f : A → Result B StatusWord) (y : B) → r >>= f ≡ Ok y → ((x : A) → r ≡ Ok x → f x ≡ Ok y → P) → P
bound (Err word) f y is then' = refused-not word y is
bound (Ok x) f y is then' = then' x refl is

pub not_refused : {A : Type 0} (o : Option A) (word : StatusWord) (x : A) → or_refused o word ≡ Ok x → o ≡ Some x
not_refused None word x is = refused-not word x is
not_refused (Some y) word x is = ap result_ok is

pub not_unless : (test : Bool) (word : StatusWord) (x : Unit {0}) → provided test word ≡ Ok x → test ≡ true
not_unless true word x is = refl
not_unless false word x is = refused-not word x is

channel-read : (cla : ℕ) (channels : List Bool) (channel : ℕ) → channel_of cla channels ≡ Ok channel → channel ≤ 3
channel-read cla channels channel is = go (is_open (slice_get channels (cla % 4))) is
  where
    go : (is_it : Bool) → (if is_it then Ok (cla % 4) else Err channel_not_supported) ≡ Ok channel → channel ≤ 3
    go true is = let same : cla % 4 ≡ channel = cc in omega (arith, same)
    go false is = refused-not channel_not_supported channel is

-- a part or a command was read on a channel
abbrev pub is_read : Form → Bool
is_read (refused word) = false
is_read (refused_on channel word) = false
is_read (part_on channel asked part) = true
is_read (a_command c) = true

pub on_channel : {P : Type 0} (r : Result ℕ StatusWord) (f : ℕ → Result Form StatusWord) (form : Form) → is_read form ≡ true → formed r f ≡ form
    → ((channel : ℕ) → r ≡ Ok channel → f channel ≡ Ok form → P) → P
on_channel (Err word) f form read is then' = absurd (false≢true (ap is_read is ∙ read))
on_channel {P} (Ok channel) f form read is then' = go (f channel) refl is
  where
    go : (result : Result Form StatusWord) → f channel ≡ result → formed_on channel result ≡ form → P
    go (Err word) same is = absurd (false≢true (ap is_read is ∙ read))
    go (Ok form') same is = then' channel refl (same ∙ ap Ok is)

pub no_part : {P : Type 0} (channel : ℕ) (asked : OperationKind) (parts : List (List ℕ)) (tail : Tail) (c : Command) → part_in channel asked parts tail ≡ Ok (a_command c) → P
no_part channel asked parts tail c is =
    bound (provided (comes_in_parts asked) chaining_not_supported) _ (a_command c) is (λ _ _ is.
    bound (provided (not (length parts == 4)) wrong_length) _ (a_command c) is (λ _ _ is. absurd cc))

command-read : (secrets : Bool) (channel : ℕ) (asked : OperationKind) (limit : ℕ) (parts : List (List ℕ)) (tail : Tail) (c : Command)
    → channel ≤ 3 → is_for_channel channel asked ≡ true → IsLe tail.le → (WantsLe asked → is_some tail.le ≡ true) → limit ≤ 1020 → has_channel asked ≡ true
    → command_in secrets channel asked limit parts tail ≡ Ok (a_command c) → IsWellFormed c
command-read secrets channel asked limit parts tail c near closed le_fits wanted least number is =
    let octets : List ℕ = concat parts ++ data_in tail in
    bound (or_refused (operation_in secrets asked limit octets) wrong_data) _ (a_command c) is (λ operation at same.
    let read = read-operation secrets asked limit least number octets operation (not_refused (operation_in secrets asked limit octets) wrong_data operation at) in
    let whole : Command = record { channel = channel; operation = operation; le = tail.le } in
    let is_whole : whole ≡ c = cc in
    subst IsWellFormed is_whole (record {
      channel = near;
      closed = subst (λ (k : OperationKind). is_for_channel channel k ≡ true) (sym read.kind) closed;
      le = le_fits;
      wanted = subst (λ (k : OperationKind). WantsLe k → is_some tail.le ≡ true) (sym read.kind) wanted;
      form = read.form;
    }))

line-read : (table : List Line) (channel ins p1 p2 : ℕ) (line : Line) → list_all is_sound table ≡ true → line_on table channel ins p1 p2 ≡ Ok line
    → (is_for_channel channel line.kind ≡ true) × (is_sound line ≡ true)
line-read table channel ins p1 p2 line sound is =
    bound (or_refused (line_of table ins p1 p2) wrong_parameters) _ line is (λ found_line at is.
    bound (provided (is_for_channel channel found_line.kind) wrong_parameters) _ line is (λ closed at_closed same.
    subst (λ (l : Line). (is_for_channel channel l.kind ≡ true) × (is_sound l ≡ true)) (same_Ok found_line line same) (
      not_unless _ wrong_parameters closed at_closed,
      (found-passes (λ (l : Line). l.ins == ins && l.p1 == p1 && l.p2 == p2) is_sound table found_line sound (not_refused (line_of table ins p1 p2) wrong_parameters found_line at)).1,
    )))

tail-taken : (takes : Takes) (is_part : Bool) (after : List ℕ) (tail : Tail) → AreOctets after → taken_in takes is_part after ≡ Ok tail → IsLe tail.le × (takes_case takes tail ≡ true)
tail-taken takes is_part after tail octets is =
    bound (or_refused (tail_of after) wrong_length) _ tail is (λ read at is.
    bound (provided (takes_case takes read && (not is_part || is_case_3 read)) wrong_length) _ tail is (λ taken at_taken same.
    subst (λ (t : Tail). IsLe t.le × (takes_case takes t ≡ true)) (same_Ok read tail same) (
      tail-read after read octets (not_refused (tail_of after) wrong_length read at),
      (both (takes_case takes read) (not is_part || is_case_3 read) (not_unless _ wrong_length taken at_taken)).0,
    )))

-- What is read as a command is well-formed, by a table whose lines are those of operations, and under a limit that a card may have.
pub IsWellFormed-form_of : (table : List Line) (octets : List ℕ) (channels : List Bool) (chain : ℕ → Option Chain) (limit : ℕ) (c : Command)
    → list_all is_sound table ≡ true → AreOctets octets → limit ≤ 1020 → form_of table octets channels chain limit ≡ a_command c → IsWellFormed c
unfolding form_of
IsWellFormed-form_of table [] channels chain limit c sound are least is = absurd cc
IsWellFormed-form_of table (cla ∷ []) channels chain limit c sound are least is = absurd cc
IsWellFormed-form_of table (cla ∷ ins ∷ []) channels chain limit c sound are least is = absurd cc
IsWellFormed-form_of table (cla ∷ ins ∷ p1 ∷ []) channels chain limit c sound are least is = absurd cc
IsWellFormed-form_of table (cla ∷ ins ∷ p1 ∷ p2 ∷ after) channels chain limit c sound are least is =
    on_channel (channel_asked table cla ins channels) _ (a_command c) refl is (λ channel at is.
    bound (class_of cla) _ channel at (λ _ _ at.
    bound (provided (has_instruction table ins) instruction_not_supported) _ channel at (λ _ _ at.
    bound (line_on table channel ins p1 p2) _ (a_command c) is (λ line on_line is.
    bound (taken_in line.takes (is_chained cla) after) _ (a_command c) is (λ tail on_tail is.
    let read = line-read table channel ins p1 p2 line sound on_line in
    let right = both (has_channel line.kind) (not (wants_le line.kind) || is_le_alone line.takes) read.1 in
    let taken = tail-taken line.takes (is_chained cla) after tail (λ i. are (suc (suc (suc (suc i))))) on_tail in
    go (is_chained cla) channel line tail (channel-read cla channels channel at) read.0 taken.0 (λ wants. le-wanted (wants_le line.kind) line.takes tail right.1 taken.1 (wants_le-of line.kind wants)) right.0 is)))))
  where
    go : (more : Bool) (channel : ℕ) (line : Line) (tail : Tail) → channel ≤ 3 → is_for_channel channel line.kind ≡ true → IsLe tail.le
        → (WantsLe line.kind → is_some tail.le ≡ true) → has_channel line.kind ≡ true
        → (if more then part_in channel line.kind (parts_of line.kind (chain channel)) tail else command_in (has_secrets table) channel line.kind limit (parts_of line.kind (chain channel)) tail) ≡ Ok (a_command c)
        → IsWellFormed c
    go true channel line tail near closed le_fits wanted number is = no_part channel line.kind (parts_of line.kind (chain channel)) tail c is
    go false channel line tail near closed le_fits wanted number is =
        command-read (has_secrets table) channel line.kind limit (parts_of line.kind (chain channel)) tail c near closed le_fits wanted least number is

-- What is read as a command is one for its channel: on channel 0 none closes its own.
pub for_channel-form_of : (table : List Line) (octets : List ℕ) (channels : List Bool) (chain : ℕ → Option Chain) (limit : ℕ) (c : Command)
    → list_all is_sound table ≡ true → limit ≤ 1020 → form_of table octets channels chain limit ≡ a_command c → is_for_channel c.channel (kind_of c.operation) ≡ true
unfolding form_of
for_channel-form_of table [] channels chain limit c sound least is = absurd cc
for_channel-form_of table (cla ∷ []) channels chain limit c sound least is = absurd cc
for_channel-form_of table (cla ∷ ins ∷ []) channels chain limit c sound least is = absurd cc
for_channel-form_of table (cla ∷ ins ∷ p1 ∷ []) channels chain limit c sound least is = absurd cc
for_channel-form_of table (cla ∷ ins ∷ p1 ∷ p2 ∷ after) channels chain limit c sound least is =
    on_channel (channel_asked table cla ins channels) _ (a_command c) refl is (λ channel at is.
    bound (line_on table channel ins p1 p2) _ (a_command c) is (λ line on_line is.
    bound (taken_in line.takes (is_chained cla) after) _ (a_command c) is (λ tail on_tail is.
    let read = line-read table channel ins p1 p2 line sound on_line in
    go (is_chained cla) channel line tail read.0 (both (has_channel line.kind) (not (wants_le line.kind) || is_le_alone line.takes) read.1).0 is)))
  where
    go : (more : Bool) (channel : ℕ) (line : Line) (tail : Tail) → is_for_channel channel line.kind ≡ true → has_channel line.kind ≡ true
        → (if more then part_in channel line.kind (parts_of line.kind (chain channel)) tail else command_in (has_secrets table) channel line.kind limit (parts_of line.kind (chain channel)) tail) ≡ Ok (a_command c)
        → is_for_channel c.channel (kind_of c.operation) ≡ true
    go true channel line tail closed number is = no_part channel line.kind (parts_of line.kind (chain channel)) tail c is
    go false channel line tail closed number is =
        let octets : List ℕ = concat (parts_of line.kind (chain channel)) ++ data_in tail in
        bound (or_refused (operation_in (has_secrets table) line.kind limit octets) wrong_data) _ (a_command c) is (λ operation at same.
        let read = read-operation (has_secrets table) line.kind limit least number octets operation (not_refused (operation_in (has_secrets table) line.kind limit octets) wrong_data operation at) in
        let whole : Command = record { channel = channel; operation = operation; le = tail.le } in
        let is_whole : whole ≡ c = cc in
        subst (λ (c : Command). is_for_channel c.channel (kind_of c.operation) ≡ true) is_whole (subst (λ (k : OperationKind). is_for_channel channel k ≡ true) (sym read.kind) closed))

-- so is what is read as one command
pub IsWellFormed-as_command : (table : List Line) (octets : List ℕ) (channels : List Bool) (chain : ℕ → Option Chain) (limit : ℕ) (result : Result Command StatusWord)
    → list_all is_sound table ≡ true → AreOctets octets → limit ≤ 1020 → result ≡ as_command (form_of table octets channels chain limit) → IfOk result IsWellFormed
IsWellFormed-as_command table octets channels chain limit (Err word) sound are least is = tt
IsWellFormed-as_command table octets channels chain limit (Ok c) sound are least is =
    IsWellFormed-form_of table octets channels chain limit c sound are least (go (form_of table octets channels chain limit) is)
  where
    go : (form : Form) → Ok c ≡ as_command form → form ≡ a_command c
    go (a_command d) is = cc
    go (refused word) is = refused-not word c (sym is)
    go (refused_on channel word) is = refused-not word c (sym is)
    go (part_on channel asked part) is = refused-not chaining_not_supported c (sym is)

-- the table of operations
pub sound-operations : list_all is_sound operations ≡ true
sound-operations = refl

-- A line that is found passes each test that all lines of its table pass, and its operation is one of the table.
pub line-passes : (q : Line → Bool) (table : List Line) (channel ins p1 p2 : ℕ) (line : Line) → list_all q table ≡ true → line_on table channel ins p1 p2 ≡ Ok line → q line ≡ true
line-passes q table channel ins p1 p2 line all is =
    bound (or_refused (line_of table ins p1 p2) wrong_parameters) _ line is (λ found_line at is.
    bound (provided (is_for_channel channel found_line.kind) wrong_parameters) _ line is (λ closed at_closed same.
    subst (λ (l : Line). q l ≡ true) (same_Ok found_line line same)
    (found-passes (λ (l : Line). l.ins == ins && l.p1 == p1 && l.p2 == p2) q table found_line all (not_refused (line_of table ins p1 p2) wrong_parameters found_line at)).1))

-- what is found is in the list
Contains-find : {A B : Type 0} (p : A → Bool) (f : A → B) (xs : List A) (x : A) → find p xs ≡ Some x → Contains (map f xs) (f x)
Contains-find p f [] x is = absurd (none-some x is)
Contains-find {A} {B} p f (y ∷ ys) x is = go (p y) is (Contains-find p f ys x)
  where
    go : (b : Bool) → (if b then Some y else find p ys) ≡ Some x → (find p ys ≡ Some x → Contains (map f ys) (f x)) → Contains (map f (y ∷ ys)) (f x)
    go true is later = (0, omega arith, ap f (same_Some y x is))
    go false is later = let at = later is in (suc at.0, omega (arith, at.1), at.2)

line-in : (table : List Line) (channel ins p1 p2 : ℕ) (line : Line) → line_on table channel ins p1 p2 ≡ Ok line → Contains (map (λ (l : Line). l.kind) table) line.kind
line-in table channel ins p1 p2 line is =
    bound (or_refused (line_of table ins p1 p2) wrong_parameters) _ line is (λ found_line at is.
    bound (provided (is_for_channel channel found_line.kind) wrong_parameters) _ line is (λ closed at_closed same.
    subst (λ (l : Line). Contains (map (λ (l : Line). l.kind) table) l.kind) (same_Ok found_line line same)
    (Contains-find (λ (l : Line). l.ins == ins && l.p1 == p1 && l.p2 == p2) (λ (l : Line). l.kind) table found_line (not_refused (line_of table ins p1 p2) wrong_parameters found_line at))))

command-kind : (secrets : Bool) (channel : ℕ) (asked : OperationKind) (limit : ℕ) (parts : List (List ℕ)) (tail : Tail) (c : Command) → limit ≤ 1020 → has_channel asked ≡ true
    → command_in secrets channel asked limit parts tail ≡ Ok (a_command c) → kind_of c.operation ≡ asked
command-kind secrets channel asked limit parts tail c least number is =
    bound (or_refused (operation_in secrets asked limit (concat parts ++ data_in tail)) wrong_data) _ (a_command c) is (λ operation at same.
    let read = read-operation secrets asked limit least number (concat parts ++ data_in tail) operation (not_refused (operation_in secrets asked limit (concat parts ++ data_in tail)) wrong_data operation at) in
    let whole : Command = record { channel = channel; operation = operation; le = tail.le } in
    let is_whole : whole ≡ c = cc in
    subst (λ (c : Command). kind_of c.operation ≡ asked) is_whole read.kind)

-- A command is of an operation of the table by which it is read.
pub kind-form_of : (table : List Line) (octets : List ℕ) (channels : List Bool) (chain : ℕ → Option Chain) (limit : ℕ) (c : Command)
    → list_all is_sound table ≡ true → limit ≤ 1020 → form_of table octets channels chain limit ≡ a_command c
    → Contains (map (λ (l : Line). l.kind) table) (kind_of c.operation)
unfolding form_of
kind-form_of table [] channels chain limit c sound least is = absurd cc
kind-form_of table (cla ∷ []) channels chain limit c sound least is = absurd cc
kind-form_of table (cla ∷ ins ∷ []) channels chain limit c sound least is = absurd cc
kind-form_of table (cla ∷ ins ∷ p1 ∷ []) channels chain limit c sound least is = absurd cc
kind-form_of table (cla ∷ ins ∷ p1 ∷ p2 ∷ after) channels chain limit c sound least is =
    on_channel (channel_asked table cla ins channels) _ (a_command c) refl is (λ channel at is.
    bound (line_on table channel ins p1 p2) _ (a_command c) is (λ line on_line is.
    bound (taken_in line.takes (is_chained cla) after) _ (a_command c) is (λ tail on_tail is.
    let sound_line = line-passes is_sound table channel ins p1 p2 line sound on_line in
    go (is_chained cla) channel line tail (line-in table channel ins p1 p2 line on_line)
    (both (has_channel line.kind) (not (wants_le line.kind) || is_le_alone line.takes) sound_line).0 is)))
  where
    kinds : List OperationKind
    kinds = map (λ (l : Line). l.kind) table

    go : (more : Bool) (channel : ℕ) (line : Line) (tail : Tail) → Contains kinds line.kind → has_channel line.kind ≡ true
        → (if more then part_in channel line.kind (parts_of line.kind (chain channel)) tail else command_in (has_secrets table) channel line.kind limit (parts_of line.kind (chain channel)) tail) ≡ Ok (a_command c)
        → Contains kinds (kind_of c.operation)
    go true channel line tail has number is = no_part channel line.kind (parts_of line.kind (chain channel)) tail c is
    go false channel line tail has number is =
        subst (Contains kinds) (sym (command-kind (has_secrets table) channel line.kind limit (parts_of line.kind (chain channel)) tail c least number is)) has

-- Where no operation of a table comes in parts, nothing is read as a part.
pub no_part-form_of : (table : List Line) (octets : List ℕ) (channels : List Bool) (chain : ℕ → Option Chain) (limit channel : ℕ) (asked : OperationKind) (octets' : List ℕ)
    → list_all (λ (l : Line). not (comes_in_parts l.kind)) table ≡ true → form_of table octets channels chain limit ≡ part_on channel asked octets' → ⊥
unfolding form_of
no_part-form_of table [] channels chain limit on_it asked part all is = absurd cc
no_part-form_of table (cla ∷ []) channels chain limit on_it asked part all is = absurd cc
no_part-form_of table (cla ∷ ins ∷ []) channels chain limit on_it asked part all is = absurd cc
no_part-form_of table (cla ∷ ins ∷ p1 ∷ []) channels chain limit on_it asked part all is = absurd cc
no_part-form_of table (cla ∷ ins ∷ p1 ∷ p2 ∷ after) channels chain limit on_it asked part all is =
    go (channel_asked table cla ins channels) is
  where
    last : (more : Bool) (channel : ℕ) (line : Line) (tail : Tail) → not (comes_in_parts line.kind) ≡ true
        → (if more then part_in channel line.kind (parts_of line.kind (chain channel)) tail else command_in (has_secrets table) channel line.kind limit (parts_of line.kind (chain channel)) tail) ≡ Ok (part_on on_it asked part) → ⊥
    last true channel line tail none is =
        bound (provided (comes_in_parts line.kind) chaining_not_supported) _ (part_on on_it asked part) is (λ x at _.
        false≢true (sym (ap not (not_unless (comes_in_parts line.kind) chaining_not_supported x at)) ∙ none))
    last false channel line tail none is =
        bound (or_refused (operation_in (has_secrets table) line.kind limit (concat (parts_of line.kind (chain channel)) ++ data_in tail)) wrong_data) _ (part_on on_it asked part) is (λ _ _ is. absurd cc)

    on_it' : (channel : ℕ) → (line_on table channel ins p1 p2 >>= λ line. taken_in line.takes (is_chained cla) after >>= λ tail.
        if is_chained cla then part_in channel line.kind (parts_of line.kind (chain channel)) tail else command_in (has_secrets table) channel line.kind limit (parts_of line.kind (chain channel)) tail) ≡ Ok (part_on on_it asked part) → ⊥
    on_it' channel is =
        bound (line_on table channel ins p1 p2) _ (part_on on_it asked part) is (λ line on_line is.
        bound (taken_in line.takes (is_chained cla) after) _ (part_on on_it asked part) is (λ tail on_tail is.
        last (is_chained cla) channel line tail (line-passes (λ (l : Line). not (comes_in_parts l.kind)) table channel ins p1 p2 line all on_line) is))

    known : (channel : ℕ) (r : Result Form StatusWord) → formed_on channel r ≡ (part_on on_it asked part) → r ≡ Ok (part_on on_it asked part)
    known channel (Err word) is = absurd cc
    known channel (Ok form) is = ap Ok is

    go : (r : Result ℕ StatusWord)
        → formed r (λ channel. line_on table channel ins p1 p2 >>= λ line. taken_in line.takes (is_chained cla) after >>= λ tail.
        if is_chained cla then part_in channel line.kind (parts_of line.kind (chain channel)) tail else command_in (has_secrets table) channel line.kind limit (parts_of line.kind (chain channel)) tail) ≡ part_on on_it asked part → ⊥
    go (Err word) is = absurd cc
    go (Ok channel) is = on_it' channel (known channel _ is)
