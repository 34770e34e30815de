-- What is read of octets comes of the APDU that they are.
use Rattle.std.proofs.Common.{◌≡◌, ◌≤◌, ◌<◌, ◌-◌, ℕ, Bool, List, [], ◌∷◌, length, take, drop, Option, Some, None, Result, Ok, Err, refl, ap, sym, ◌∙◌, arith, length-drop, if◌then◌else◌}
use Rattle.std.specs.Prelude.{IfOk, slice_index}
use Rattle.std.proofs.lemmas.List.{take_all}
use Rattle.scql_base.specs.declared.words.StatusWord.{StatusWord}
use Rattle.scql_base.specs.declared.operation.Command.{Command}
use Rattle.scql_base.specs.declared.operation.Line.{Line}
use Rattle.scql_base.specs.Words.{wrong_data, wrong_length}
use Rattle.scql_base.specs.declared.operation.Operation.{Operation}
use Rattle.scql_model.specs.Machine.{Chain}
use Rattle.scql_model.specs.Refusals.{◌>>=◌, or_refused}
use Rattle.scql_model.specs.Operations.{operations, has_secrets}
use Rattle.scql_model.specs.Parameters.{operation_in}
use Rattle.scql_model.specs.Form.{Form, Tail, refused, refused_on, data_in, is_chained, line_on, taken_in, parts_of, formed, formed_on, part_in, command_in, channel_asked, form_of}
use Rattle.apdu.specs.declared.reading.Apdu.{Apdu}
use Rattle.apdu.specs.Reading.{Asked, apdu_on, with_parts, command_of}

-- what is formed on a channel
abbrev on_channel : (ℕ → Option Chain) → ℕ → ℕ → ℕ → ℕ → ℕ → ℕ → List ℕ → Result Form StatusWord
on_channel chain limit channel cla ins p1 p2 after =
    line_on operations channel ins p1 p2 >>= λ line. taken_in line.takes (is_chained cla) after >>= λ tail.
    if is_chained cla then part_in channel line.kind (parts_of line.kind (chain channel)) tail
    else command_in (has_secrets operations) channel line.kind limit (parts_of line.kind (chain channel)) tail

asked-on : (chain : ℕ → Option Chain) (limit channel cla ins p1 p2 : ℕ) (after : List ℕ)
    → on_channel chain limit channel cla ins p1 p2 after ≡ (apdu_on channel cla ins p1 p2 after >>= λ (a : Asked). with_parts a (parts_of a.kind (chain a.channel)) limit)
asked-on chain limit channel cla ins p1 p2 after = of_line (line_on operations channel ins p1 p2)
  where
    whole : Line → Tail → Result Form StatusWord
    whole line tail =
        if is_chained cla then part_in channel line.kind (parts_of line.kind (chain channel)) tail
        else command_in (has_secrets operations) channel line.kind limit (parts_of line.kind (chain channel)) tail

    asked : Line → Tail → Asked
    asked line tail = record { channel = channel; kind = line.kind; is_part = is_chained cla; body = data_in tail; le = tail.le }

    done : Asked → Result Form StatusWord
    done a = with_parts a (parts_of a.kind (chain a.channel)) limit

    of_tail : (line : Line) (r : Result Tail StatusWord) → (r >>= λ (tail : Tail). whole line tail) ≡ ((r >>= λ (tail : Tail). Ok (asked line tail)) >>= done)
    of_tail line (Err word) = refl
    of_tail line (Ok tail) = refl

    of_line : (r : Result Line StatusWord)
        → (r >>= λ (line : Line). taken_in line.takes (is_chained cla) after >>= λ (tail : Tail). whole line tail)
        ≡ ((r >>= λ (line : Line). taken_in line.takes (is_chained cla) after >>= λ (tail : Tail). Ok (asked line tail)) >>= done)
    of_line (Err word) = refl
    of_line (Ok line) = of_tail line (taken_in line.takes (is_chained cla) after)

-- what octets with a class are
pub form_of-asked : (cla ins p1 p2 : ℕ) (after : List ℕ) (channels : List Bool) (chain : ℕ → Option Chain) (limit : ℕ)
    → form_of operations (cla ∷ ins ∷ p1 ∷ p2 ∷ after) channels chain limit
    ≡ formed (channel_asked operations cla ins channels) (λ channel. apdu_on channel cla ins p1 p2 after >>= λ (a : Asked). with_parts a (parts_of a.kind (chain a.channel)) limit)
unfolding form_of
form_of-asked cla ins p1 p2 after channels chain limit = go (channel_asked operations cla ins channels)
  where
    go : (r : Result ℕ StatusWord)
        → formed r (λ channel. on_channel chain limit channel cla ins p1 p2 after)
        ≡ formed r (λ channel. apdu_on channel cla ins p1 p2 after >>= λ (a : Asked). with_parts a (parts_of a.kind (chain a.channel)) limit)
    go (Err word) = refl
    go (Ok channel) = ap (formed_on channel) (asked-on chain limit channel cla ins p1 p2 after)

-- Octets that are too few, or refused before or on their channel, or an APDU.
pub form_of-short : (octets : List ℕ) (channels : List Bool) (chain : ℕ → Option Chain) (limit : ℕ) → length octets < 4 → form_of operations octets channels chain limit ≡ refused wrong_length
unfolding form_of
form_of-short [] channels chain limit short = refl
form_of-short (cla ∷ []) channels chain limit short = refl
form_of-short (cla ∷ ins ∷ []) channels chain limit short = refl
form_of-short (cla ∷ ins ∷ p1 ∷ []) channels chain limit short = refl
form_of-short (cla ∷ ins ∷ p1 ∷ p2 ∷ after) channels chain limit short = absurd (omega (arith, short))

-- octets that are long enough, by their header and what is behind it
long : (P : List ℕ → Type 0) → ((cla ins p1 p2 : ℕ) (after : List ℕ) → P (cla ∷ ins ∷ p1 ∷ p2 ∷ after)) → (octets : List ℕ) → 4 ≤ length octets → P octets
long P holds [] enough = absurd (omega (arith, enough))
long P holds (cla ∷ []) enough = absurd (omega (arith, enough))
long P holds (cla ∷ ins ∷ []) enough = absurd (omega (arith, enough))
long P holds (cla ∷ ins ∷ p1 ∷ []) enough = absurd (omega (arith, enough))
long P holds (cla ∷ ins ∷ p1 ∷ p2 ∷ after) enough = holds cla ins p1 p2 after

abbrev asked_of : List ℕ → List Bool → Result ℕ StatusWord
asked_of octets channels = channel_asked operations (slice_index octets 0) (slice_index octets 1) channels

abbrev apdu_of : List ℕ → ℕ → Result Asked StatusWord
apdu_of octets channel = apdu_on channel (slice_index octets 0) (slice_index octets 1) (slice_index octets 2) (slice_index octets 3) (drop 4 octets)

-- what is behind the header, as code has it
abbrev apdu_seen : List ℕ → ℕ → Result Asked StatusWord
apdu_seen octets channel = apdu_on channel (slice_index octets 0) (slice_index octets 1) (slice_index octets 2) (slice_index octets 3) (take (length octets - 4) (drop 4 octets))

apdu-seen : (octets : List ℕ) (channel : ℕ) → apdu_seen octets channel ≡ apdu_of octets channel
apdu-seen octets channel =
    let size : length (drop 4 octets) ≡ length octets - 4 = length-drop 4 octets in
    ap (apdu_on channel (slice_index octets 0) (slice_index octets 1) (slice_index octets 2) (slice_index octets 3)) (take_all (length octets - 4) (drop 4 octets) (omega (arith, size)))

form_of-header : (octets : List ℕ) (channels : List Bool) (chain : ℕ → Option Chain) (limit : ℕ) → 4 ≤ length octets
    → form_of operations octets channels chain limit ≡ formed (asked_of octets channels) (λ channel. apdu_of octets channel >>= λ (a : Asked). with_parts a (parts_of a.kind (chain a.channel)) limit)
form_of-header octets channels chain limit enough =
    long (λ octets. form_of operations octets channels chain limit ≡ formed (asked_of octets channels) (λ channel. apdu_of octets channel >>= λ (a : Asked). with_parts a (parts_of a.kind (chain a.channel)) limit))
    (λ cla ins p1 p2 after. form_of-asked cla ins p1 p2 after channels chain limit) octets enough

pub form_of-nowhere : (octets : List ℕ) (channels : List Bool) (chain : ℕ → Option Chain) (limit : ℕ) (word : StatusWord) → 4 ≤ length octets → Err word ≡ asked_of octets channels
    → form_of operations octets channels chain limit ≡ refused word
form_of-nowhere octets channels chain limit word enough is = rw (form_of-header octets channels chain limit enough, ← is) refl

-- what is formed where the channel is known, by what is asked on it
module _ (asked : ℕ → Result Asked StatusWord) (done : Asked → Result Form StatusWord) (found : Result ℕ StatusWord) (channel : ℕ) (is : Ok channel ≡ found) where
  refused-formed : (word : StatusWord) → Err word ≡ asked channel → formed found (λ channel. asked channel >>= done) ≡ refused_on channel word
  refused-formed word here = rw (← is, ← here) refl

  asked-formed : (a : Asked) → Ok a ≡ asked channel → formed found (λ channel. asked channel >>= done) ≡ formed_on channel (done a)
  asked-formed a here = rw (← is, ← here) refl

pub form_of-refused : (octets : List ℕ) (channels : List Bool) (chain : ℕ → Option Chain) (limit channel : ℕ) (word : StatusWord) → 4 ≤ length octets → Ok channel ≡ asked_of octets channels
    → Err word ≡ apdu_seen octets channel → form_of operations octets channels chain limit ≡ refused_on channel word
form_of-refused octets channels chain limit channel word enough is at =
    form_of-header octets channels chain limit enough
    ∙ refused-formed (apdu_of octets) (λ (a : Asked). with_parts a (parts_of a.kind (chain a.channel)) limit) (asked_of octets channels) channel is word (at ∙ apdu-seen octets channel)

pub form_of-apdu : (octets : List ℕ) (channels : List Bool) (chain : ℕ → Option Chain) (limit channel : ℕ) (a : Asked) → 4 ≤ length octets → Ok channel ≡ asked_of octets channels
    → Ok a ≡ apdu_seen octets channel → a.channel ≡ channel → form_of operations octets channels chain limit ≡ formed_on a.channel (with_parts a (parts_of a.kind (chain a.channel)) limit)
form_of-apdu octets channels chain limit channel a enough is at same =
    form_of-header octets channels chain limit enough
    ∙ (asked-formed (apdu_of octets) (λ (a : Asked). with_parts a (parts_of a.kind (chain a.channel)) limit) (asked_of octets channels) channel is a (at ∙ apdu-seen octets channel)
    ∙ ap (λ (n : ℕ). formed_on n (with_parts a (parts_of a.kind (chain a.channel)) limit)) (sym same))

-- A command is on the channel of its APDU.
pub command_of-channel : (a : Apdu) (limit : ℕ) (body : List ℕ) → IfOk (command_of a limit body) (λ c. c.channel ≡ a.channel)
command_of-channel a limit body = go (operation_in (has_secrets operations) a.kind limit body)
  where
    go : (o : Option Operation) → IfOk (or_refused o wrong_data >>= λ (operation : Operation). let c : Command = record { channel = a.channel; operation = operation; le = a.le } in Ok c) (λ c. c.channel ≡ a.channel)
    go None = tt
    go (Some operation) = refl
