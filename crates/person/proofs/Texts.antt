-- Texts that are shown one after another.
use Rattle.std.proofs.Common.{◌≡◌, ℕ, Bool, true, false, List, [], ◌++◌, Option, refl, sym, ap, subst, ◌∙◌, append_assoc}
use Rattle.std.proofs.lemmas.Bool.{false≢true}
use Rattle.eeprom.specs.Output.{Prints}
use Rattle.line_run.specs.AnswersLaws.{Prints-nothing, Prints-then}
use Rattle.person.specs.Showing.{IsShown, Shows}

none-shown : (lost : Bool) (given : Option (List ℕ)) → IsShown lost [] given given
none-shown false given = Prints-nothing given
none-shown true given = record { said = []; start = ([], refl); given = Prints-nothing given }

pub shows-none : {P : Type 0} (lost : P → Bool) (shown : P → Option (List ℕ)) (person : P) → Shows lost shown [] person person
shows-none lost shown person = record { follows = none-shown (lost person) (shown person); over = λ is. (refl, is) }

shown-then : (before after : Bool) (first second : List ℕ) (a b c : Option (List ℕ)) → IsShown before first a b → IsShown after second b c → (before ≡ true → (c ≡ b) × (after ≡ true)) → IsShown after (first ++ second) a c
shown-then false false first second a b c p q over = Prints-then first second a b c p q
shown-then false true first second a b c p q over = record {
  said = first ++ q.said;
  start = (q.start.0, ap (λ (x : List ℕ). first ++ x) q.start.1 ∙ sym (append_assoc first q.said q.start.0));
  given = Prints-then first q.said a b c p q.given;
}
shown-then true true first second a b c p q over = record {
  said = p.said;
  start = (p.start.0 ++ second, ap (λ (x : List ℕ). x ++ second) p.start.1 ∙ append_assoc p.said p.start.0 second);
  given = subst (λ (given : Option (List ℕ)). Prints p.said a given) (sym (over refl).0) p.given;
}
shown-then true false first second a b c p q over = absurd (false≢true (over refl).1)

pub shows-then : {P : Type 0} (lost : P → Bool) (shown : P → Option (List ℕ)) (first second : List ℕ) (a b c : P) → Shows lost shown first a b → Shows lost shown second b c → Shows lost shown (first ++ second) a c
shows-then lost shown first second a b c p q = record {
  follows = shown-then (lost b) (lost c) first second (shown a) (shown b) (shown c) p.follows q.follows q.over;
  over = λ is. let here = p.over is in let there = q.over here.1 in (there.0 ∙ here.0, there.1);
}
