-- What a change leaves on a store and its EEPROM, by the ways in which it ends.
use Rattle.std.proofs.Common.{◌≡◌, ℕ, ◌+◌, ◌*◌, Bool, true, false, List, [], ◌∷◌, Some, is_some, Result, Ok, Err, refl, sym, ap, subst, ◌∙◌, arith}
use Rattle.std.specs.Prelude.{IfOk}
use Rattle.std.proofs.lemmas.Bool.{false≢true}
use Rattle.eeprom.specs.Chip.{Chip, Becomes, Keeps, RisesAtMost, RisesBy}
use Rattle.eeprom.specs.StoreOf.{store_of}
use Rattle.eeprom.specs.declared.EepromFault.{EepromFault}
use Rattle.eeprom.proofs.Leaves.{Keeps-none}
use Rattle.record_store.specs.Held.{Held, contents, IsOver}
use Rattle.record_store.specs.Transaction.{begun_from, entries, Commits, IsCommitted}
use Rattle.record_store.specs.declared.side.Side.TheVariants.{Committed}
use Rattle.scql_base.specs.declared.words.StatusWord.{StatusWord}
use Rattle.scql_base.specs.Words.{done}
use Rattle.scql_model.specs.Database.{Database}
use Rattle.scql_model.specs.Edits.{Edit, applied, octets_for}
use Rattle.scql_model.specs.Opens.{Opens}
use Rattle.record_table.specs.Making.{IsHeld, Makes}
use Rattle.record_table.specs.AtRest.{IsAtRest, LeavesOneOf}
use Rattle.record_table.proofs.AtRest.{held-committed, held-same, leaves-committed, leaves-kept, slots-rolled_back}
use Rattle.card.specs.Changing.{Concludes, Changes, new_of, octets_of, commits_of}
use Rattle.card.proofs.Leaving.{rises-none}

-- The ways in which a change ends, where the store held the database.
module _ (db : Database) (edited : Result (List Edit) StatusWord) (old : Chip) (opens : (was : List ℕ) → old.image ≡ Some was → Opens was db) where
  -- a device failed before anything was committed
  pub Changes-failed : (result : Result StatusWord EepromFault) (store : Held) (new : Chip) → IfOk result (λ _. ⊥) → Keeps store_of old new → Changes db edited result store old new
  Changes-failed (Ok word) store new failed keeps = absurd failed
  Changes-failed (Err fault) store new failed keeps = record {
    step = tt;
    moments = leaves-kept old new db (commits_of (new_of db edited)) opens keeps;
    unwritten = tt;
    octets = tt;
  }

  -- it was refused, and nothing was written
  pub Changes-refused : (word : StatusWord) (store : Held) (new : Chip) → new ≡ old → new_of db edited ≡ Err word → IsAtRest store new db → Changes db edited (Ok word) store old new
  Changes-refused word store new same refused rest = record {
    step = rw refused (refl, rest);
    moments = leaves-kept old new db (commits_of (new_of db edited)) opens (Keeps-none store_of old new same);
    unwritten = λ idle. same;
    octets = rises-none (octets_of db edited) old new same;
  }

  -- its edits were made, and are committed
  module _ (edits : List Edit) (is : edited ≡ Ok edits) (begun mid : Held) (start between : Chip) (makes : Makes db edits begun mid start between) where
    new_is : new_of db edited ≡ Ok (applied db edits)
    new_is = rw (is, makes.room) refl

    octets_are : octets_of db edited ≡ octets_for edits
    octets_are = rw (is, makes.room) refl

    committing : (new : Chip) → Keeps store_of old between → IsHeld mid Committed between db → Commits mid between new → LeavesOneOf (db ∷ commits_of (new_of db edited)) old new
    committing new keeps committed commits =
        subst (λ (o : Result Database StatusWord). LeavesOneOf (db ∷ commits_of o) old new) (sym new_is)
        (leaves-committed mid old between new db (applied db edits) opens keeps committed makes.held commits)

    pub Changes-half_committed : (result : Result StatusWord EepromFault) (store : Held) (new : Chip) → IfOk result (λ _. ⊥) → Keeps store_of old between → IsHeld mid Committed between db
        → Commits mid between new → Changes db edited result store old new
    Changes-half_committed (Ok word) store new failed keeps committed commits = absurd failed
    Changes-half_committed (Err fault) store new failed keeps committed commits = record {
      step = tt;
      moments = committing new keeps committed commits;
      unwritten = tt;
      octets = tt;
    }

    some_committed : commits_of (new_of db edited) ≡ [] → ⊥
    some_committed idle = false≢true (sym (ap is_some_there (subst (λ (o : Result Database StatusWord). commits_of o ≡ []) new_is idle)))
      where
        is_some_there : List Database → Bool
        is_some_there [] = false
        is_some_there (next ∷ dbs) = true

    pub Changes-committed : (store : Held) (new : Chip) → IsOver mid between → Keeps store_of old between → IsHeld mid Committed between db → Commits mid between new
        → Becomes (IsCommitted mid store) between.image new.image → is_some new.image ≡ is_some between.image → store.chains.cells ≡ mid.chains.cells → store.row_limit ≡ mid.row_limit
        → start.written ≡ old.written → entries begun ≡ 0 → Becomes (RisesBy (4 + 6 * entries mid)) between.written new.written → Changes db edited (Ok done) store old new
    Changes-committed store new over keeps committed commits done_now told cells rows same_written none rises = record {
      step = subst (λ (o : Result Database StatusWord). Concludes db o done store new) (sym new_is) (refl, held-committed mid store between new (applied db edits) over makes.held done_now told cells rows);
      moments = committing new keeps committed commits;
      unwritten = λ idle. absurd (some_committed idle);
      octets = subst (λ (most : ℕ). Becomes (RisesAtMost most) old.written new.written) (sym octets_are) (λ after told.
          let last = rises after told in
          let first = makes.octets last.0 last.1 in
          (first.0, sym same_written ∙ first.1, omega (arith, first.2, last.2, makes.entries, none)));
    }

-- what is committed stays where one was refused, and rolled back
pub rest-rolled_back : (store begun mid back : Held) (old c1 c2 : Chip) (db : Database) → IsAtRest store old db → c1 ≡ old → begun ≡ begun_from store
    → ((image : List ℕ) → contents begun Committed image ≡ contents store Committed image) → mid ≡ begun → c2 ≡ c1
    → ((image : List ℕ) → contents back Committed image ≡ contents mid Committed image) → back.chains.cells ≡ mid.chains.cells → back.row_limit ≡ mid.row_limit → IsAtRest back c2 db
rest-rolled_back store begun mid back old c1 c2 db rest same is starts stays still ended cells rows =
    held-same store back Committed Committed old c2 db rest (slots-rolled_back store begun mid back old c1 c2 same starts stays still ended)
    (cells ∙ (ap (λ (h : Held). h.chains.cells) stays ∙ ap (λ (h : Held). h.chains.cells) is)) (rows ∙ (ap (λ (h : Held). h.row_limit) stays ∙ ap (λ (h : Held). h.row_limit) is))
