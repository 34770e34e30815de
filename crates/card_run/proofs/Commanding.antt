-- A card that is asked by commands: what its lines leave.
use Rattle.std.proofs.Common.{◌≡◌, ℕ, ◌+◌, ◌≤◌, List, [], length, IfSome, refl, ap, subst, ◌∙◌, arith}
use Rattle.hex.specs.Hex.{encode_with}
use Rattle.eeprom.specs.Chip.{Chip, Gives, Throughout}
use Rattle.scql_base.specs.declared.words.StatusWord.{StatusWord}
use Rattle.scql_base.specs.Words.{memory_failure}
use Rattle.scql_model.specs.Machine.{Machine}
use Rattle.scql_model.specs.Lines.{LineContent, command_lines, content_effect, mute_text, reply_text}
use Rattle.scql_model.specs.Opens.{Opens}
use Rattle.card.specs.Card.{Kept, IsReady, IsAt}
use Rattle.card.proofs.Leaving.{Opens-at}
use Rattle.line_run.specs.declared.line_stop.LineStop.TheVariants.{Outlet}
use Rattle.line_run.specs.Answering.{Answered, Failed}
use Rattle.line_run.specs.CutOff.{FailsIn, IsCutShort}
use Rattle.line_run.specs.Moments.{IsInAnswered, IsAnswered, IfGiven}
use Rattle.eeprom.specs.Output.{Prints}
use Rattle.card_run.proofs.Moving.{noted-moments, noted-answered}
use Rattle.card_run.proofs.Stopping.{fails_giving}

-- A line that reads as a note leaves the EEPROM. The outlet fails in it,
fails_note : (m : Machine) (note content : LineContent) (text : List ℕ) (card : Kept) (old now : Chip) → IsReady card old → IsAt card old m
    → note ≡ content → text ≡ (content_effect m note).text → m.committed ≡ (content_effect m note).next.committed
    → IsCutShort text old.still.given now.still.given → now.image ≡ old.image → FailsIn Outlet command_lines [] m (content_effect m content) old.still.given now
fails_note m note content text card old now ready at is text_is stays cut same =
    subst (λ (c : LineContent). FailsIn Outlet command_lines [] m (content_effect m c) old.still.given now) is
    (fails_giving command_lines m (content_effect m note) old.still.given old now (subst (λ (t : List ℕ). IsCutShort t old.still.given now.still.given) text_is cut) same
    (λ image told. subst (Opens image) stays (Opens-at card old m ready at image told)))

-- and some of its text went out,
note-moments : (m : Machine) (note content : LineContent) (text : List ℕ) (card : Kept) (old now : Chip) → IsReady card old → IsAt card old m
    → note ≡ content → text ≡ (content_effect m note).text → m.committed ≡ (content_effect m note).next.committed → IfSome old.past (λ past. length past ≡ old.clock) → Gives old now
    → now.still.mark ≤ old.still.mark + length text → Throughout old now (IsInAnswered command_lines m (content_effect m content) old.still.mark)
note-moments m note content text card old now ready at is text_is stays clocked gives within =
    subst (λ (c : LineContent). Throughout old now (IsInAnswered command_lines m (content_effect m c) old.still.mark)) is
    (noted-moments command_lines m (content_effect m note) old now (Opens-at card old m ready at) stays clocked gives (omega (arith, within, ap length text_is)))

-- or all of it
note-answered : (m : Machine) (note content : LineContent) (text : List ℕ) (card : Kept) (old now : Chip) → IsReady card old → IsAt card old m
    → note ≡ content → text ≡ (content_effect m note).text → m.committed ≡ (content_effect m note).next.committed → IfSome old.past (λ past. length past ≡ old.clock) → Gives old now
    → now.still.mark ≡ old.still.mark + length text → IsAnswered command_lines m (content_effect m content) old now
note-answered m note content text card old now ready at is text_is stays clocked gives mark =
    subst (λ (c : LineContent). IsAnswered command_lines m (content_effect m c) old now) is
    (noted-answered command_lines m (content_effect m note) old now (Opens-at card old m ready at) stays clocked gives (mark ∙ ap (λ (t : List ℕ). old.still.mark + length t) text_is))

-- So such a line was answered, or cut short by the outlet.
pub note-given : (m : Machine) (note content : LineContent) (text : List ℕ) (card after : Kept) (old now : Chip) → IsReady card old → IsAt card old m
    → note ≡ content → text ≡ (content_effect m note).text → m.committed ≡ (content_effect m note).next.committed → IfSome old.past (λ past. length past ≡ old.clock) → Gives old now
    → IsAt after now (content_effect m note).next → Prints text old.still.given now.still.given → IfGiven now (now.still.mark ≡ old.still.mark + length text)
    → Answered command_lines m (content_effect m content) (λ next. IsAt after now next) old now
note-given m note content text card after old now ready at is text_is stays clocked gives there printed mark = record {
  at = subst (λ (c : LineContent). IsAt after now (content_effect m c).next) is there;
  text = subst (λ (c : LineContent). Prints (content_effect m c).text old.still.given now.still.given) is (subst (λ (t : List ℕ). Prints t old.still.given now.still.given) text_is printed);
  moments = λ told. note-answered m note content text card old now ready at is text_is stays clocked gives (mark told);
}

pub note-cut : (m : Machine) (note content : LineContent) (text : List ℕ) (card : Kept) (old now : Chip) → IsReady card old → IsAt card old m
    → note ≡ content → text ≡ (content_effect m note).text → m.committed ≡ (content_effect m note).next.committed → IfSome old.past (λ past. length past ≡ old.clock) → Gives old now
    → IsCutShort text old.still.given now.still.given → now.image ≡ old.image → IfGiven now (now.still.mark ≤ old.still.mark + length text)
    → Failed Outlet command_lines m (content_effect m content) old now
note-cut m note content text card old now ready at is text_is stays clocked gives cut same within = record {
  fails = fails_note m note content text card old now ready at is text_is stays cut same;
  moments = λ told. note-moments m note content text card old now ready at is text_is stays clocked gives (within told);
}

-- what a card says that goes mute
pub mute_text-reply : (body : List ℕ) (word : StatusWord) → body ≡ [] → word ≡ memory_failure → reply_text (record { body = body; word = word }) ≡ mute_text
unfolding encode_with
mute_text-reply body word empty is = rw (empty, is) refl
