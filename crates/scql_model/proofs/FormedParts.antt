-- What is read on a channel is on an open one; a part has octets, and its chain has room for it.
use Rattle.std.proofs.Common.{◌≡◌, ◌≤◌, ◌<◌, ◌+◌, ◌%◌, ℕ, suc, ◌==◌, not, ◌&&◌, ◌||◌, Bool, true, false, List, [], ◌∷◌, length, take, get_or, Option, Some, None, is_some, Result, Ok, Err, if◌then◌else◌, refl, ap, subst, sym, ◌∙◌, arith, length-take-le}
use Rattle.std.specs.Prelude.{IfSome, slice_get}
use Rattle.std.specs.Option.{is_none}
use Rattle.std.proofs.lemmas.Option.{none-some, same_Some}
use Rattle.std.proofs.lemmas.Bool.{false≢true, eqb-true}
use Rattle.scql_base.specs.declared.words.StatusWord.{StatusWord}
use Rattle.scql_base.specs.Words.{wrong_data, wrong_length, channel_not_supported, chaining_not_supported, instruction_not_supported}
use Rattle.scql_base.specs.declared.operation.Command.{Command}
use Rattle.scql_base.specs.declared.operation.OperationKind.{OperationKind}
use Rattle.scql_model.specs.Machine.{Chain}
use Rattle.scql_base.specs.declared.operation.Line.{Line}
use Rattle.scql_base.specs.declared.operation.Takes.{Takes}
use Rattle.scql_model.specs.Operations.{has_instruction, has_secrets, comes_in_parts}
use Rattle.scql_model.specs.Parameters.{operation_in}
use Rattle.scql_model.specs.Refusals.{or_refused, provided}
use Rattle.scql_model.specs.Form.{class_of, is_chained, is_open, channel_of, Tail, le_of, data_of, tail_of, takes_case, is_case_3, data_in, channel_asked, line_on, taken_in, parts_of, Form, refused, refused_on, part_on, a_command, formed_on, formed, part_in, command_in, form_of}
use Rattle.scql_model.specs.Accepting.{channel_named}
use Rattle.scql_model.proofs.FieldLaws.{AreOctets}
use Rattle.scql_model.proofs.FormedCommands.{both, refused-not, bound, not_refused, not_unless, on_channel}

-- A part of a command whose operation comes in parts, behind these parts: 1 to 255 octets, and there aren't four parts yet.
pub record IsPart (kind : OperationKind) (part : List ℕ) (parts : List (List ℕ)) : Type 0 where
  pub comes : comes_in_parts kind ≡ true
  pub some : 1 ≤ length part
  pub most : length part ≤ 255
  pub room : not (length parts == 4) ≡ true

-- a data field that is there has 1 to 255 octets
field-length : (after : List ℕ) (tail : Tail) → AreOctets after → tail_of after ≡ Some tail → is_some tail.body ≡ true → (1 ≤ length (data_in tail)) × (length (data_in tail) ≤ 255)
field-length [] tail octets is some = absurd (false≢true (ap (λ (t : Tail). is_some t.body) (same_Some _ tail is) ∙ some))
field-length (le ∷ []) tail octets is some = absurd (false≢true (ap (λ (t : Tail). is_some t.body) (same_Some _ tail is) ∙ some))
field-length (lc ∷ x ∷ rest) tail octets is some = go (lc == 0) refl is
  where
    few : lc < 256
    few = octets 0

    sized : (alone with_le : Bool) → (length (x ∷ rest) == lc) ≡ alone → (length (x ∷ rest) == lc + 1) ≡ with_le → (lc == 0) ≡ false
        → (if alone then Some (record { body = Some (x ∷ rest); le = None })
        else if with_le then Some (record { body = Some (take lc (x ∷ rest)); le = Some (le_of (get_or (x ∷ rest) lc 0)) })
        else None) ≡ Some tail
        → (1 ≤ length (data_in tail)) × (length (data_in tail) ≤ 255)
    sized true with_le at_alone at_le there is =
        let same : length (x ∷ rest) ≡ lc = eqb-true (length (x ∷ rest)) lc at_alone in
        subst (λ (t : Tail). (1 ≤ length (data_in t)) × (length (data_in t) ≤ 255)) (same_Some _ tail is) (omega arith, omega (arith, same, few))
    sized false true at_alone at_le there is =
        let same : length (x ∷ rest) ≡ lc + 1 = eqb-true (length (x ∷ rest)) (lc + 1) at_le in
        let size : length (take lc (x ∷ rest)) ≡ lc = length-take-le lc (x ∷ rest) (omega (arith, same)) in
        let least : 1 ≤ lc = grind (arith, there) in
        subst (λ (t : Tail). (1 ≤ length (data_in t)) × (length (data_in t) ≤ 255)) (same_Some _ tail is) (omega (arith, size, least), omega (arith, size, few))
    sized false false at_alone at_le there is = absurd (none-some tail is)

    go : (none : Bool) → (lc == 0) ≡ none → (if none then None else data_of lc (x ∷ rest)) ≡ Some tail → (1 ≤ length (data_in tail)) × (length (data_in tail) ≤ 255)
    go true at is = absurd (none-some tail is)
    go false at is = sized (length (x ∷ rest) == lc) (length (x ∷ rest) == lc + 1) refl refl at is

part-taken : (takes : Takes) (is_part : Bool) (after : List ℕ) (tail : Tail) → AreOctets after → taken_in takes is_part after ≡ Ok tail
    → (not is_part || is_case_3 tail ≡ true) × (is_some tail.body ≡ true → (1 ≤ length (data_in tail)) × (length (data_in tail) ≤ 255))
part-taken takes is_part after tail octets is =
    bound (or_refused (tail_of after) wrong_length) _ tail is (λ read at is.
    bound (provided (takes_case takes read && (not is_part || is_case_3 read)) wrong_length) _ tail is (λ taken at_taken same.
    subst (λ (t : Tail). (not is_part || is_case_3 t ≡ true) × (is_some t.body ≡ true → (1 ≤ length (data_in t)) × (length (data_in t) ≤ 255))) (let is_same : read ≡ tail = cc in is_same) (
      (both (takes_case takes read) (not is_part || is_case_3 read) (not_unless _ wrong_length taken at_taken)).1,
      field-length after read octets (not_refused (tail_of after) wrong_length read at),
    )))

-- What is read as a part is one behind the parts of its channel.
pub IsPart-form_of : (table : List Line) (octets : List ℕ) (channels : List Bool) (chain : ℕ → Option Chain) (limit channel : ℕ) (kind : OperationKind) (part : List ℕ)
    → AreOctets octets → form_of table octets channels chain limit ≡ part_on channel kind part → IsPart kind part (parts_of kind (chain channel))
unfolding form_of
IsPart-form_of table [] channels chain limit channel kind part are is = absurd cc
IsPart-form_of table (cla ∷ []) channels chain limit channel kind part are is = absurd cc
IsPart-form_of table (cla ∷ ins ∷ []) channels chain limit channel kind part are is = absurd cc
IsPart-form_of table (cla ∷ ins ∷ p1 ∷ []) channels chain limit channel kind part are is = absurd cc
IsPart-form_of table (cla ∷ ins ∷ p1 ∷ p2 ∷ after) channels chain limit channel kind part are is =
    on_channel (channel_asked table cla ins channels) _ (part_on channel kind part) refl is (λ asked at is.
    bound (line_on table asked ins p1 p2) _ (part_on channel kind part) is (λ line on_line is.
    bound (taken_in line.takes (is_chained cla) after) _ (part_on channel kind part) is (λ tail on_tail is.
    let taken = part-taken line.takes (is_chained cla) after tail (λ i. are (suc (suc (suc (suc i))))) on_tail in
    go (is_chained cla) asked line tail taken.0 taken.1 is)))
  where
    go : (more : Bool) (asked : ℕ) (line : Line) (tail : Tail) → not more || is_case_3 tail ≡ true → (is_some tail.body ≡ true → (1 ≤ length (data_in tail)) × (length (data_in tail) ≤ 255))
        → (if more then part_in asked line.kind (parts_of line.kind (chain asked)) tail else command_in (has_secrets table) asked line.kind limit (parts_of line.kind (chain asked)) tail) ≡ Ok (part_on channel kind part)
        → IsPart kind part (parts_of kind (chain channel))
    go true asked line tail case_3 sizes is =
        bound (provided (comes_in_parts line.kind) chaining_not_supported) _ (part_on channel kind part) is (λ comes at_comes is.
        bound (provided (not (length (parts_of line.kind (chain asked)) == 4)) wrong_length) _ (part_on channel kind part) is (λ room at_room is.
        let same_channel : asked ≡ channel = cc in
        let same_kind : line.kind ≡ kind = cc in
        let same_part : data_in tail ≡ part = cc in
        let size = sizes (both (is_some tail.body) (is_none tail.le) case_3).0 in
        subst (λ (n : ℕ). IsPart kind part (parts_of kind (chain n))) same_channel
        (subst (λ (k : OperationKind). IsPart k part (parts_of k (chain asked))) same_kind
        (subst (λ (p : List ℕ). IsPart line.kind p (parts_of line.kind (chain asked))) same_part
        (record { comes = not_unless _ chaining_not_supported comes at_comes; some = size.0; most = size.1; room = not_unless _ wrong_length room at_room })))))
    go false asked line tail case_3 sizes is =
        bound (or_refused (operation_in (has_secrets table) line.kind limit _) wrong_data) _ (part_on channel kind part) is (λ operation at is. absurd cc)

-- the channel on which something was read or refused
abbrev pub read_on : Form → Option ℕ
read_on (refused word) = None
read_on (refused_on channel word) = Some channel
read_on (part_on channel kind part) = Some channel
read_on (a_command c) = Some c.channel

open-read : (cla : ℕ) (channels : List Bool) (channel : ℕ) → channel_of cla channels ≡ Ok channel → slice_get channels channel ≡ Some true
open-read cla channels channel is = go (slice_get channels (cla % 4)) refl is
  where
    go : (told : Option Bool) → slice_get channels (cla % 4) ≡ told → (if is_open told then Ok (cla % 4) else Err channel_not_supported) ≡ Ok channel → slice_get channels channel ≡ Some true
    go None at is = refused-not channel_not_supported channel is
    go (Some false) at is = refused-not channel_not_supported channel is
    go (Some true) at is = let same : cla % 4 ≡ channel = cc in subst (λ (n : ℕ). slice_get channels n ≡ Some true) same at

asked-open : (table : List Line) (cla ins : ℕ) (channels : List Bool) (channel : ℕ) → channel_asked table cla ins channels ≡ Ok channel → slice_get channels channel ≡ Some true
asked-open table cla ins channels channel is =
    bound (class_of cla) _ channel is (λ _ _ is.
    bound (provided (has_instruction table ins) instruction_not_supported) _ channel is (λ _ _ is. open-read cla channels channel is))

named-read : (cla : ℕ) (channels : List Bool) (channel : ℕ) → channel_of cla channels ≡ Ok channel → channel ≡ cla % 4
named-read cla channels channel is = go (is_open (slice_get channels (cla % 4))) is
  where
    go : (open' : Bool) → (if open' then Ok (cla % 4) else Err channel_not_supported) ≡ Ok channel → channel ≡ cla % 4
    go true is = cc
    go false is = refused-not channel_not_supported channel is

asked-named : (table : List Line) (cla ins : ℕ) (channels : List Bool) (channel : ℕ) → channel_asked table cla ins channels ≡ Ok channel → channel ≡ cla % 4
asked-named table cla ins channels channel is =
    bound (class_of cla) _ channel is (λ _ _ is.
    bound (provided (has_instruction table ins) instruction_not_supported) _ channel is (λ _ _ is. named-read cla channels channel is))

-- what comes of a channel is on it
on_open : (r : Result ℕ StatusWord) (f : ℕ → Result Form StatusWord) (P : ℕ → Type 0) → ((channel : ℕ) → r ≡ Ok channel → P channel)
    → ((channel : ℕ) (form : Form) → f channel ≡ Ok form → read_on form ≡ Some channel) → IfSome (read_on (formed r f)) P
on_open (Err word) f P holds there = tt
on_open (Ok channel) f P holds there = go (f channel) refl
  where
    go : (result : Result Form StatusWord) → f channel ≡ result → IfSome (read_on (formed_on channel result)) P
    go (Err word) at = holds channel refl
    go (Ok form) at = subst (λ (o : Option ℕ). IfSome o P) (sym (there channel form at)) (holds channel refl)

on_its_channel : (secrets more : Bool) (channel limit : ℕ) (kind : OperationKind) (parts : List (List ℕ)) (tail : Tail) (form : Form)
    → (if more then part_in channel kind parts tail else command_in secrets channel kind limit parts tail) ≡ Ok form → read_on form ≡ Some channel
on_its_channel secrets true channel limit kind parts tail form is =
    bound (provided (comes_in_parts kind) chaining_not_supported) _ form is (λ _ _ is.
    bound (provided (not (length parts == 4)) wrong_length) _ form is (λ _ _ is.
    let same : part_on channel kind (data_in tail) ≡ form = cc in ap read_on (sym same)))
on_its_channel secrets false channel limit kind parts tail form is =
    bound (or_refused (operation_in secrets kind limit _) wrong_data) _ form is (λ operation _ is.
    let read : Command = record { channel = channel; operation = operation; le = tail.le } in
    let same : a_command read ≡ form = cc in ap read_on (sym same))

-- What is read or refused on a channel is so on the one that is asked for.
on_asked : (table : List Line) (octets : List ℕ) (channels : List Bool) (chain : ℕ → Option Chain) (limit : ℕ) (P : ℕ → Type 0)
    → ((cla ins channel : ℕ) (rest : List ℕ) → octets ≡ cla ∷ ins ∷ rest → channel_asked table cla ins channels ≡ Ok channel → P channel)
    → IfSome (read_on (form_of table octets channels chain limit)) P
unfolding form_of
on_asked table [] channels chain limit P holds = tt
on_asked table (cla ∷ []) channels chain limit P holds = tt
on_asked table (cla ∷ ins ∷ []) channels chain limit P holds = tt
on_asked table (cla ∷ ins ∷ p1 ∷ []) channels chain limit P holds = tt
on_asked table (cla ∷ ins ∷ p1 ∷ p2 ∷ after) channels chain limit P holds =
    on_open (channel_asked table cla ins channels) _ P (λ channel. holds cla ins channel (p1 ∷ p2 ∷ after) refl)
    (λ channel form is.
    bound (line_on table channel ins p1 p2) _ form is (λ line _ is.
    bound (taken_in line.takes (is_chained cla) after) _ form is (λ tail _ is.
    on_its_channel (has_secrets table) (is_chained cla) channel limit line.kind (parts_of line.kind (chain channel)) tail form is)))

-- It is an open one.
pub IfSome-read_on : (table : List Line) (octets : List ℕ) (channels : List Bool) (chain : ℕ → Option Chain) (limit : ℕ)
    → IfSome (read_on (form_of table octets channels chain limit)) (λ channel. slice_get channels channel ≡ Some true)
IfSome-read_on table octets channels chain limit =
    on_asked table octets channels chain limit (λ channel. slice_get channels channel ≡ Some true)
    (λ cla ins channel rest is. asked-open table cla ins channels channel)

-- It is the one that the class names.
pub IfSome-read_on-named : (table : List Line) (octets : List ℕ) (channels : List Bool) (chain : ℕ → Option Chain) (limit : ℕ)
    → IfSome (read_on (form_of table octets channels chain limit)) (λ channel. channel ≡ channel_named octets)
IfSome-read_on-named table octets channels chain limit =
    on_asked table octets channels chain limit (λ channel. channel ≡ channel_named octets)
    (λ cla ins channel rest is at. asked-named table cla ins channels channel at ∙ sym (ap channel_named is))
