-- Moments of a line: it is carried out, and then a piece of its answer goes out.
use Rattle.std.proofs.Common.{◌≡◌, inl, ℕ, ◌+◌, ◌≤◌, List, ◌∷◌, length, IfSome, Some, refl, ap, subst, arith}
use Rattle.eeprom.specs.Chip.{Chip, Still, Gives, Throughout, IsInPiece}
use Rattle.eeprom.proofs.Moments.{gives-throughout, throughout-same, throughout-both}
use Rattle.scql_model.specs.Lines.{Effect, Language}
use Rattle.scql_model.specs.Heard.{committed_in}
use Rattle.scql_model.specs.Opens.{Opens, OpensToOneOf}
use Rattle.card.specs.Answering.{LeavesOneOf}
use Rattle.line_run.specs.Moments.{IsInLine, IsInAnswered, IsAnswered}

-- A line was carried out, and then a piece of its answer went out.
pub line-moments : {S : Type 0} (L : Language S) (state : S) (does : Effect S) (old mid new : Chip) → LeavesOneOf (committed_in L state ∷ does.commits) old mid → mid.still ≡ old.still
    → Throughout mid new (IsInPiece mid new.still.mark) → Throughout old new (IsInLine L state does old.still.mark)
line-moments L state does old mid new leaves still gives =
    throughout-both old mid new (λ g left. (g ≡ old.still.mark) × OpensToOneOf (committed_in L state ∷ does.commits) left) (IsInPiece mid new.still.mark) (IsInLine L state does old.still.mark) leaves gives
    (λ g left during. record { later = omega (arith, during.0); opens = during.1 })
    (λ g left during. record {
      later = subst (λ (s : Still). s.mark ≤ g) still during.0;
      opens = (leaves.now left during.2).1;
    })

-- at most the whole text goes out, once all of the line's commits were done
pub answered-moments : {S : Type 0} (L : Language S) (state : S) (does : Effect S) (old mid new : Chip) → LeavesOneOf (committed_in L state ∷ does.commits) old mid → mid.still ≡ old.still
    → Throughout mid new (IsInPiece mid new.still.mark) → ((image : List ℕ) → mid.image ≡ Some image → Opens image (committed_in L does.next))
    → new.still.mark ≤ mid.still.mark + length does.text → Throughout old new (IsInAnswered L state does old.still.mark)
answered-moments L state does old mid new leaves still gives opens within =
    let same : mid.still.mark ≡ old.still.mark = ap (λ (s : Still). s.mark) still in
    throughout-both old mid new (λ g left. (g ≡ old.still.mark) × OpensToOneOf (committed_in L state ∷ does.commits) left) (IsInPiece mid new.still.mark) (IsInAnswered L state does old.still.mark) leaves gives
    (λ g left during. record {
      line = record { later = omega (arith, during.0); opens = during.1 };
      within = omega (arith, during.0);
      done = λ past. absurd (omega (arith, past, during.0));
    })
    (λ g left during. record {
      line = record { later = omega (arith, same, during.0); opens = (leaves.now left during.2).1 };
      within = omega (arith, same, within, during.1);
      done = λ past. opens left during.2;
    })

-- nothing is printed, and nothing happens
pub line-silent : {S : Type 0} (L : Language S) (state : S) (does : Effect S) (chip : Chip) → length does.text ≡ 0
    → ((image : List ℕ) → chip.image ≡ Some image → Opens image (committed_in L state)) → IsAnswered L state does chip chip
line-silent L state does chip none opens = record {
  mark = omega (arith, none);
  moments = throughout-same chip (IsInAnswered L state does chip.still.mark) (λ image told. record {
    line = record { later = omega arith; opens = inl (opens image told) };
    within = omega arith;
    done = λ past. absurd (omega (arith, past));
  });
}

-- A line commits nothing and leaves the EEPROM, and of its text some went out,
pub noted-moments : {S : Type 0} (L : Language S) (state : S) (does : Effect S) (old now : Chip) → ((image : List ℕ) → old.image ≡ Some image → Opens image (committed_in L state))
    → committed_in L state ≡ committed_in L does.next → IfSome old.past (λ past. length past ≡ old.clock) → Gives old now
    → now.still.mark ≤ old.still.mark + length does.text → Throughout old now (IsInAnswered L state does old.still.mark)
noted-moments L state does old now opens stays clocked gives within =
    answered-moments L state does old old now (throughout-same old _ (λ image told. (refl, inl (opens image told)))) refl (gives-throughout old now clocked gives)
    (λ image there. subst (Opens image) stays (opens image there)) within

-- or all of it
pub noted-answered : {S : Type 0} (L : Language S) (state : S) (does : Effect S) (old now : Chip) → ((image : List ℕ) → old.image ≡ Some image → Opens image (committed_in L state))
    → committed_in L state ≡ committed_in L does.next → IfSome old.past (λ past. length past ≡ old.clock) → Gives old now
    → now.still.mark ≡ old.still.mark + length does.text → IsAnswered L state does old now
noted-answered L state does old now opens stays clocked gives mark = record {
  mark = mark;
  moments = noted-moments L state does old now opens stays clocked gives (omega (arith, mark));
}
