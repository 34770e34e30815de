-- Refusals have other words than 6282 and 63CX, and so has what neither reads nor compares a secret.
use Rattle.std.proofs.Common.{◌≡◌, ◌≤◌, ◌<◌, ◌+◌, ◌==◌, ◌/◌, ◌%◌, ℕ, zero, suc, Bool, true, false, ◌&&◌, ◌||◌, nat_le, nat_lt, List, [], ◌∷◌, ◌++◌, length, map, Option, Some, None, Result, Ok, Err, not, is_some, if◌then◌else◌, refl, ap, arith, lit≤, inl, inr}
use Rattle.std.specs.Prelude.{slice_get}
use Rattle.std.specs.List.{concat}
use Rattle.std.specs.Result.{result_ok}
use Rattle.std.specs.Str.{bytes_eq}
use Rattle.std.proofs.lemmas.Bool.{and_from, and_parts, cases_Bool, eqb-true, leb-true, ltb-true, le-leb, lt-ltb}
use Rattle.scql_base.specs.declared.words.StatusWord.{StatusWord}
use Rattle.scql_base.specs.declared.words.Actor.{Actor}
use Rattle.scql_base.specs.declared.cursor.Cursor.{Cursor}
use Rattle.scql_base.specs.declared.condition.Condition.{Condition}
use Rattle.scql_base.specs.declared.records.Object.{Object}
use Rattle.scql_base.specs.declared.operation.Line.{Line}
use Rattle.scql_base.specs.declared.operation.Takes.{Takes}
use Rattle.scql_base.specs.Words.{done, end_reached, in_four_bits, tries_left, in_sw2, more_left, wrong_le, wrong_length, wrong_data, wrong_parameters, class_not_supported, secure_messaging_not_supported, instruction_not_supported, chaining_not_supported, channel_not_supported, conditions_not_satisfied, function_not_supported, not_found, security_not_satisfied, no_space}
use Rattle.scql_model.specs.Refusals.{◌>>=◌, or_refused, provided}
use Rattle.scql_model.specs.Database.{Database, public_name, user_named, are_among}
use Rattle.scql_model.specs.Matching.{Columns}
use Rattle.scql_model.specs.Machine.{Machine, Chain, new_session, session_for, actor}
use Rattle.scql_model.specs.Sessions.{presented, is_channel_open, least_closed}
use Rattle.scql_model.specs.Transactions.{own_transaction}
use Rattle.scql_model.specs.Operations.{has_instruction, has_secrets, is_for_channel, line_of, comes_in_parts}
use Rattle.scql_model.specs.Parameters.{operation_in}
use Rattle.scql_model.specs.Form.{Form, refused, refused_on, part_on, a_command, Tail, class_of, is_chained, is_open, channel_of, channel_asked, line_on, tail_of, taken_in, parts_of, formed_on, formed, part_in, command_in, takes_case, is_case_3, data_in, form_of}
use Rattle.scql_model.specs.ReadingCommands.{rest_word, fitting, named_among}
use Rattle.scql_model.specs.Moves.{selected, is_opened, opened, rows_under}
use Rattle.scql_model.specs.Rights.{select_privilege, holds, seen_stamped}
use Rattle.scql_model.specs.Edits.{Edit, applied}
use Rattle.scql_model.specs.Changing.{lacks_room, with_edits}
use Rattle.scql_model.specs.Step.{Answer, session_named, channel_opened, channel_closed}
use Rattle.scql_model.proofs.FormedCommands.{refused-not}

-- Numbers of words.
pub four_bits : (n : ℕ) → in_four_bits n ≤ 15
four_bits n = go (nat_lt n 16) refl
  where
    go : (b : Bool) → nat_lt n 16 ≡ b → (if b then n else 15) ≤ 15
    go true is = omega (arith, ltb-true n 16 is)
    go false is = omega arith

pub one_octet : (n : ℕ) → in_sw2 n ≤ 255
one_octet n = go (nat_lt n 256) refl
  where
    go : (b : Bool) → nat_lt n 256 ≡ b → (if b then n else 0) ≤ 255
    go true is = omega (arith, ltb-true n 256 is)
    go false is = omega arith

abbrev pub number : StatusWord → ℕ
number w = w.word

-- neither 6282 nor 63CX
abbrev pub IsPlain : StatusWord → Type 0
IsPlain w = (w ≡ end_reached → ⊥) × ((n : ℕ) → w ≡ tries_left n → ⊥)

pub plain-high : (w : StatusWord) → 25552 ≤ w.word → IsPlain w
plain-high w high = (λ is. omega (arith, high, ap number is), λ n is. omega (arith, high, ap number is, four_bits n))

pub plain-low : (w : StatusWord) → w.word < 25218 → IsPlain w
plain-low w low = (λ is. omega (arith, low, ap number is), λ n is. omega (arith, low, ap number is, four_bits n))

pub plain-done : IsPlain done
plain-done = plain-high done (lit≤ tt)

pub plain-rest : (rest : List ℕ) → IsPlain (rest_word rest)
plain-rest [] = plain-done
plain-rest (octet ∷ octets) = plain-low (more_left (length (octet ∷ octets))) (omega (arith, one_octet (length (octet ∷ octets))))

pub end-not_try : (n : ℕ) → end_reached ≡ tries_left n → ⊥
end-not_try n is = omega (arith, ap number is)

-- the words of refusals, all of which are below 9000
abbrev pub Refuses : StatusWord → Type 0
Refuses w = (nat_le 25600 w.word && nat_lt w.word done.word) ≡ true

pub plain-refusal : (w : StatusWord) → Refuses w → IsPlain w
plain-refusal w is = plain-high w (omega (arith, leb-true 25600 w.word (and_parts (nat_le 25600 w.word) (nat_lt w.word done.word) is).0))

pub not_done-refusal : (w : StatusWord) → Refuses w → (w.word == done.word) ≡ false
not_done-refusal w is =
    let below = ltb-true w.word done.word (and_parts (nat_le 25600 w.word) (nat_lt w.word done.word) is).1 in
    elim (cases_Bool (w.word == done.word)) [
      | inl same ↦ absurd (let here = eqb-true w.word done.word same in omega (arith, below, here))
      | inr other ↦ other
    ]

pub refuses-wrong_le : (n : ℕ) → Refuses (wrong_le n)
refuses-wrong_le n = and_from (nat_le 25600 (27648 + in_sw2 n)) (nat_lt (27648 + in_sw2 n) done.word) (le-leb 25600 (27648 + in_sw2 n) (omega arith)) (lt-ltb (27648 + in_sw2 n) done.word (omega (arith, one_octet n)))

-- An outcome is so, or a refusal.
abbrev pub OrRefuses : {A : Type 0} → (A → Type 0) → Result A StatusWord → Type 0
OrRefuses P (Ok x) = P x
OrRefuses P (Err word) = Refuses word

abbrev pub Anything : {A : Type 0} → A → Type 0
Anything x = Unit {0}

pub behind : {A B : Type 0} (P : B → Type 0) (r : Result A StatusWord) (f : A → Result B StatusWord) → OrRefuses Anything r → ((x : A) → r ≡ Ok x → OrRefuses P (f x)) → OrRefuses P (r >>= f)
behind P (Ok x) f gives each = each x refl
behind P (Err word) f gives each = gives

pub or_word : {A : Type 0} (o : Option A) (word : StatusWord) → Refuses word → OrRefuses Anything (or_refused o word)
or_word None word is = is
or_word (Some x) word is = tt

pub if_word : (test : Bool) (word : StatusWord) → Refuses word → OrRefuses Anything (provided test word)
if_word true word is = tt
if_word false word is = is

-- what is asked of a command, and what there has to be
pub asked : {B : Type 0} (P : B → Type 0) (test : Bool) (word : StatusWord) (f : Unit {0} → Result B StatusWord) → Refuses word → OrRefuses P (f tt) → OrRefuses P (provided test word >>= f)
asked P true word f is gives = gives
asked P false word f is gives = is

pub there : {A B : Type 0} (P : B → Type 0) (o : Option A) (word : StatusWord) (f : A → Result B StatusWord) → Refuses word → ((x : A) → OrRefuses P (f x)) → OrRefuses P (or_refused o word >>= f)
there P None word f is each = is
there P (Some x) word f is each = each x

-- Reading.
pub gives-selected : (db : Database) (actor : Actor) (o : Object) → OrRefuses Anything (selected db actor o)
gives-selected db actor o = asked Anything (holds db actor o select_privilege) security_not_satisfied _ refl tt

pub gives-rows : (db : Database) (actor : Actor) (c : Cursor) → OrRefuses Anything (rows_under db actor c)
gives-rows db actor c =
    behind Anything (or_refused (seen_stamped db actor c.object) not_found) _ (or_word (seen_stamped db actor c.object) not_found refl) (λ o _.
    behind Anything (selected db actor o) _ (gives-selected db actor o) (λ _ _. tt))

pub gives-opened : (cursor : Option Cursor) → OrRefuses Anything (opened cursor)
gives-opened cursor =
    behind Anything (or_refused cursor conditions_not_satisfied) _ (or_word cursor conditions_not_satisfied refl) (λ c _.
    behind Anything (provided (is_opened c.place) conditions_not_satisfied) _ (if_word (is_opened c.place) conditions_not_satisfied refl) (λ _ _. tt))

pub opened-is : (cursor : Option Cursor) (c : Cursor) → opened cursor ≡ Ok c → cursor ≡ Some c
opened-is None c is = refused-not conditions_not_satisfied c is
opened-is (Some d) c is = go (is_opened d.place) is
  where
    go : (b : Bool) → (provided b conditions_not_satisfied >>= λ _. Ok d) ≡ Ok c → Some d ≡ Some c
    go true is = ap result_ok is
    go false is = refused-not conditions_not_satisfied c is

pub gives-fitting : (le : ℕ) (octets : List ℕ) → OrRefuses Anything (fitting le octets)
gives-fitting le octets = go (nat_le (length octets) le || le == 256)
  where
    go : (b : Bool) → OrRefuses Anything (if b then Ok octets else Err (wrong_le (length octets)))
    go true = tt
    go false = refuses-wrong_le (length octets)

pub gives-named_among : (columns named : Columns) (conditions : List Condition) → OrRefuses Anything (named_among columns named conditions)
gives-named_among columns named conditions = if_word (are_among named columns && are_among (map (λ (c : Condition). c.column) conditions) columns) not_found refl

-- Edits, where there is room for them.
pub gives-with_edits : (db : Database) (edits : List Edit) → OrRefuses Anything (with_edits db edits)
gives-with_edits db edits = go (lacks_room db edits)
  where
    go : (b : Bool) → OrRefuses Anything (if b then Err no_space else Ok (applied db edits))
    go true = refl
    go false = tt

-- Operations that don't read.
abbrev pub Plain : Answer → Type 0
Plain answer = IsPlain answer.reply.word

pub gives-session_named : (db : Database) (name : List ℕ) → OrRefuses Anything (session_named db name)
gives-session_named db name = go (bytes_eq name public_name)
  where
    go : (b : Bool) → OrRefuses Anything (if b then Ok new_session else (or_refused (user_named db.users name) not_found >>= λ u. Ok (session_for (Some (presented u)))))
    go true = tt
    go false = behind Anything (or_refused (user_named db.users name) not_found) _ (or_word (user_named db.users name) not_found refl) (λ _ _. tt)

pub plain-opened : (m : Machine) (channel number : ℕ) → OrRefuses Plain (channel_opened m channel number)
plain-opened m channel zero = behind Plain (or_refused (least_closed m) function_not_supported) _ (or_word (least_closed m) function_not_supported refl) (λ _ _. plain-done)
plain-opened m channel (suc n) = asked Plain (not (is_channel_open m (suc n))) conditions_not_satisfied _ refl plain-done

pub plain-closed : (m : Machine) (channel number : ℕ) → OrRefuses Plain (channel_closed m channel number)
plain-closed m channel number =
    asked Plain (is_channel_open m number) channel_not_supported _ refl
    (asked Plain (not (is_some (own_transaction m.transaction number))) conditions_not_satisfied _ refl plain-done)

-- Octets that are refused.
abbrev pub RefusedSo : Form → Type 0
RefusedSo (refused word) = Refuses word
RefusedSo (refused_on channel word) = Refuses word
RefusedSo (part_on channel kind part) = Unit {0}
RefusedSo (a_command c) = Unit {0}

pub gives-class_of : (cla : ℕ) → OrRefuses Anything (class_of cla)
gives-class_of cla = go (not (cla / 32 == 0)) (not (cla / 4 % 4 == 0))
  where
    go : (other secure : Bool) → OrRefuses {A = Unit {0}} Anything (if other then Err class_not_supported else if secure then Err secure_messaging_not_supported else Ok tt)
    go true secure = refl
    go false true = refl
    go false false = tt

pub gives-channel_of : (cla : ℕ) (channels : List Bool) → OrRefuses Anything (channel_of cla channels)
gives-channel_of cla channels = go (is_open (slice_get channels (cla % 4)))
  where
    go : (b : Bool) → OrRefuses Anything (if b then Ok (cla % 4) else Err channel_not_supported)
    go true = tt
    go false = refl

pub refused-formed : (r : Result ℕ StatusWord) (f : ℕ → Result Form StatusWord) → OrRefuses Anything r → ((channel : ℕ) → OrRefuses RefusedSo (f channel)) → RefusedSo (formed r f)
refused-formed (Err word) f gives each = gives
refused-formed (Ok channel) f gives each = go (f channel) (each channel)
  where
    go : (r : Result Form StatusWord) → OrRefuses RefusedSo r → RefusedSo (formed_on channel r)
    go (Err word) is = is
    go (Ok form) is = is

pub refused-form_of : (table : List Line) (octets : List ℕ) (channels : List Bool) (chain : ℕ → Option Chain) (limit : ℕ) → RefusedSo (form_of table octets channels chain limit)
unfolding form_of
refused-form_of table [] channels chain limit = refl
refused-form_of table (cla ∷ []) channels chain limit = refl
refused-form_of table (cla ∷ ins ∷ []) channels chain limit = refl
refused-form_of table (cla ∷ ins ∷ p1 ∷ []) channels chain limit = refl
refused-form_of table (cla ∷ ins ∷ p1 ∷ p2 ∷ after) channels chain limit =
    refused-formed (channel_asked table cla ins channels) _
    (behind Anything (class_of cla) _ (gives-class_of cla) (λ _ _.
    asked Anything (has_instruction table ins) instruction_not_supported _ refl (gives-channel_of cla channels)))
    (λ channel.
    behind RefusedSo (line_on table channel ins p1 p2) _ (gives-line channel) (λ line _.
    behind RefusedSo (taken_in line.takes (is_chained cla) after) _ (gives-taken line.takes) (λ tail _. go (is_chained cla) channel line tail)))
  where
    gives-line : (channel : ℕ) → OrRefuses Anything (line_on table channel ins p1 p2)
    gives-line channel =
        there Anything (line_of table ins p1 p2) wrong_parameters _ refl (λ line.
        asked Anything (is_for_channel channel line.kind) wrong_parameters _ refl tt)

    gives-taken : (takes : Takes) → OrRefuses Anything (taken_in takes (is_chained cla) after)
    gives-taken takes =
        there Anything (tail_of after) wrong_length _ refl (λ tail.
        asked Anything (takes_case takes tail && (not (is_chained cla) || is_case_3 tail)) wrong_length _ refl tt)

    go : (more : Bool) (channel : ℕ) (line : Line) (tail : Tail)
        → OrRefuses RefusedSo (if more then part_in channel line.kind (parts_of line.kind (chain channel)) tail else command_in (has_secrets table) channel line.kind limit (parts_of line.kind (chain channel)) tail)
    go true channel line tail =
        asked RefusedSo (comes_in_parts line.kind) chaining_not_supported _ refl
        (asked RefusedSo (not (length (parts_of line.kind (chain channel)) == 4)) wrong_length _ refl tt)
    go false channel line tail =
        there RefusedSo (operation_in (has_secrets table) line.kind limit (concat (parts_of line.kind (chain channel)) ++ data_in tail)) wrong_data _ refl (λ _. tt)
