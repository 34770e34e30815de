-- Lemmas, in specs/ since what answers lines cites them as its laws: the language of queries is lawful, the image opens to the database of where a run of it is, and what a person is shown follows on.
use Rattle.std.proofs.Common.{◌≡◌, ℕ, Bool, List, [], ◌++◌, Option, Some, refl, sym, ◌∙◌, ap, subst, map}
use Rattle.std.specs.Prelude.{IfSome}
use Rattle.std.specs.List.{concat}
use Rattle.std.proofs.lemmas.List.{map-append}
use Rattle.std.proofs.lemmas.List.Folds.{concat-append}
use Rattle.eeprom.specs.Chip.{Chip}
use Rattle.scql_model.specs.Heard.{IsLawful, committed_in}
use Rattle.scql_model.specs.Machine.{Machine}
use Rattle.scql_model.specs.Opens.{Opens}
use Rattle.person.specs.Showing.{Shows}
use Rattle.guide.proofs.Told.{told-none, told-then}
use Rattle.person.proofs.Texts.{shows-none, shows-then}
use Rattle.query_run.specs.Answering.{ShowsCounts}
use Rattle.query_run.specs.Progress.{fetched_text, fetched_texts}
use Rattle.query_run.specs.QueryLines.{Asking, query_lines}
use Rattle.query_run.specs.Responding.{AsksSo, LeadsOn}

pub queries-lawful : IsLawful query_lines
queries-lawful = record { last = λ asking line. refl; silent = λ asking line none. refl }

-- the image opens to the database of where the run is
pub asking-over : {L : Type 0} (is_at : L → Machine → Type 0) (asking : Asking) (link : L) (refused : Bool) (chip : Chip) → ((m : Machine) → is_at link m → IfSome chip.image (λ image. Opens image m.committed)) → AsksSo is_at asking link refused
    → (image : List ℕ) → chip.image ≡ Some image → Opens image (committed_in query_lines asking)
asking-over is_at asking link refused chip opens asks image told = subst (Opens image) asks.reads.committed (rw told at (opens asks.reads.machine asks.reads.at))

pub counts-none : {P : Type 0} (lost : P → Bool) (shown : P → Option (List ℕ)) (person : P) → ShowsCounts lost shown person person
counts-none lost shown person = record { counts = []; shows = shows-none lost shown person }

pub counts-then : {P : Type 0} (lost : P → Bool) (shown : P → Option (List ℕ)) (a b c : P) → ShowsCounts lost shown a b → ShowsCounts lost shown b c → ShowsCounts lost shown a c
counts-then lost shown a b c first second = record {
  counts = first.counts ++ second.counts;
  shows = subst (λ (text : List ℕ). Shows lost shown text a c)
      (sym (ap concat (map-append fetched_text first.counts second.counts) ∙ concat-append (map fetched_text first.counts) (map fetched_text second.counts)))
      (shows-then lost shown (fetched_texts first.counts) (fetched_texts second.counts) a b c first.shows second.shows);
}

pub leads-none : {L P N : Type 0} (goes_on : L → L → Type 0) (lost : P → Bool) (shown : P → Option (List ℕ)) (missed : N → Bool) (told : N → Option (List ℕ)) (link : L) (person : P) (notices : N) → goes_on link link
    → LeadsOn goes_on lost shown missed told link link person person notices notices
leads-none goes_on lost shown missed told link person notices goes = record { goes = goes; watches = counts-none lost shown person; hears = told-none missed told notices }

pub leads-then : {L P N : Type 0} (goes_on : L → L → Type 0) (lost : P → Bool) (shown : P → Option (List ℕ)) (missed : N → Bool) (told : N → Option (List ℕ)) (old mid new : L) (a b c : P) (x y z : N) → (goes_on old mid → goes_on mid new → goes_on old new)
    → LeadsOn goes_on lost shown missed told old mid a b x y → LeadsOn goes_on lost shown missed told mid new b c y z → LeadsOn goes_on lost shown missed told old new a c x z
leads-then goes_on lost shown missed told old mid new a b c x y z goes first second = record {
  goes = goes first.goes second.goes;
  watches = counts-then lost shown a b c first.watches second.watches;
  hears = told-then missed told x y z first.hears second.hears;
}
