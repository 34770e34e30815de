-- A whole copy: what its pieces come to.
use Rattle.std.proofs.Common.{◌≡◌, ◌⊎◌, ℕ, arith, Bool, List, ◌∷◌, length, Result, Ok, Err, refl, sym, ◌∙◌, ap, subst, inl, inr}
use Rattle.std.proofs.lemmas.Bool.{false≢true}
use Rattle.eeprom.specs.Chip.{Chip}
use Rattle.scql_base.specs.declared.words.StatusWord.{StatusWord}
use Rattle.scql_model.specs.Database.{Database}
use Rattle.scql_model.specs.Machine.{Machine, actor}
use Rattle.scql_model.specs.Matching.{Values}
use Rattle.scql_model.specs.Refusals.{◌>>=◌}
use Rattle.card_link.specs.Link.{Holds, IsOneOf, LeavesOpen}
use Rattle.planner.specs.declared.closing.Closing.TheVariants.{Rows}
use Rattle.planner.specs.declared.step.Step.{Step}
use Rattle.planner.specs.Planned.{Planned}
use Rattle.card_asking.proofs.Moments.{leaves-all, leaves-both}
use Rattle.table_copy.specs.Copy.{Copy, copy, copy_of, ended_so, may_begin, put_into, source_rows}
use Rattle.table_copy.specs.Copying.{StaysAt, CopiesSo, UndoneSo, ReadsSo, EndsBy}
use Rattle.table_copy.specs.Filling.{Piece, FetchesSo, OfSource, IsFetching, GivesAll, CopiesAt, IsFilling, Together, TurnsSo, IsCommitted, FillsSo, OpensSo, commits_by}
use Rattle.table_copy.specs.declared.copy_end.CopyEnd.{CopyEnd}
use Rattle.table_copy.specs.declared.copy_end.CopyEnd.TheVariants.{Copied, SourceRefused, DestRefused, SourceMute, DestMute}

-- a destination is mute or it isn't
pub mute-or : (end : CopyEnd) → (end ≡ DestMute) ⊎ (end ≡ DestMute → ⊥)
mute-or DestMute = inl refl
mute-or (Copied number) = inr (λ is. absurd cc)
mute-or (SourceRefused word) = inr (λ is. absurd cc)
mute-or (DestRefused word) = inr (λ is. absurd cc)
mute-or SourceMute = inr (λ is. absurd cc)

pub unless-mute : (P : CopyEnd → Type 0) (end : CopyEnd) → P DestMute → ((end ≡ DestMute → ⊥) → P end) → P end
unless-mute P end mute else' = go (mute-or end)
  where
    go : (end ≡ DestMute) ⊎ (end ≡ DestMute → ⊥) → P end
    go (inl is) = subst P (sym is) mute
    go (inr heard) = else' heard

-- at its begin
pub together-first : {S D : Type 0} (source_at : S → Machine → Type 0) (dest_at : D → Machine → Type 0) (s d : Machine) (rows : List Values) (table : List ℕ) (p : Planned) (step : Step) (source : S) (dest : D)
    → GivesAll source_at s (length rows) rows p step source → CopiesAt dest_at d d.committed dest
    → Together source_at dest_at s d (length rows) 0 table (copy_of d.committed (actor d 0) table rows) p step source dest
together-first source_at dest_at s d rows table p step source dest gives copies = record { left = rows; db = d.committed; gives = gives; copies = copies; leads = refl; counted = omega arith }

-- what the rows make decides where BEGIN was done
pub begun-total : (d : Machine) (total : Result Database StatusWord) → may_begin d ≡ Ok tt → (may_begin d >>= λ _. total) ≡ total
begun-total d total may = ap (λ (may : Result (Unit {0}) StatusWord). may >>= λ _. total) may

module _ {L : Type 0} (is_at : L → Machine → Type 0) (d : Machine) where
  -- it was committed
  pub copied-so : (count : ℕ) (x total : Result Database StatusWord) (number : ℕ) (now : L) → x ≡ total → IsCommitted is_at d count total number now → CopiesSo is_at d (ended_so count x) (Copied number) now
  copied-so count x total number now same is =
      subst (λ (x : Result Database StatusWord). CopiesSo is_at d (ended_so count x) (Copied number) now) (sym (same ∙ is.made)) (ap (λ (n : ℕ). Copied n) is.counted, is.stands)

  -- it was undone
  pub undone-copies : {A : Type 0} (P : A → Type 0) (count : ℕ) (x total : Result Database StatusWord) (end : CopyEnd) (now : L) → x ≡ total → TurnsSo total (Err end) P → StaysAt is_at d now → CopiesSo is_at d (ended_so count x) end now
  undone-copies P count x total (DestRefused word) now same so stays =
      subst (λ (x : Result Database StatusWord). CopiesSo is_at d (ended_so count x) (DestRefused word) now) (sym (same ∙ so)) (refl, stays)
  undone-copies P count x total SourceMute now same so stays = stays
  undone-copies P count x total DestMute now same so stays = tt
  undone-copies P count x total (Copied number) now same so stays = absurd so
  undone-copies P count x total (SourceRefused word) now same so stays = absurd so

  pub undone-so : (end : CopyEnd) (now : L) → StaysAt is_at d now → UndoneSo is_at d end now
  undone-so (Copied number) now stays = tt
  undone-so DestMute now stays = tt
  undone-so (SourceRefused word) now stays = stays
  undone-so (DestRefused word) now stays = stays
  undone-so SourceMute now stays = stays

  pub filling-ended : (r : Piece ℕ) (end : CopyEnd) (now : L) → r ≡ Err end → FillsSo is_at d r now → (end ≡ DestMute → ⊥) → IsFilling is_at d now
  filling-ended (Ok x) end now is so heard = absurd cc
  filling-ended (Err DestMute) end now is so heard = absurd (heard (let same : end ≡ DestMute = cc in same))
  filling-ended (Err (Copied number)) end now is so heard = so
  filling-ended (Err (SourceRefused word)) end now is so heard = so
  filling-ended (Err (DestRefused word)) end now is so heard = so
  filling-ended (Err SourceMute) end now is so heard = so

pub commits-same : (count : ℕ) (x total : Result Database StatusWord) → x ≡ total → (ended_so count x).commits ≡ commits_by total
commits-same count x total same = ap (λ (x : Result Database StatusWord). (ended_so count x).commits) same ∙ go total
  where
    go : (total : Result Database StatusWord) → (ended_so count total).commits ≡ commits_by total
    go (Ok db) = refl
    go (Err word) = refl

-- BEGIN, and then what the rows make
pub begun-moments : {L : Type 0} (chip : L → Chip) (mark : L → ℕ) (db : Database) (commits made : List Database) (old mid new : L) → commits ≡ made → mark mid ≡ mark old → LeavesOpen (Holds (mark old) db) (chip old) (chip mid)
    → LeavesOpen (IsOneOf (mark mid) (db ∷ made)) (chip mid) (chip new) → LeavesOpen (IsOneOf (mark old) (db ∷ commits)) (chip old) (chip new)
begun-moments chip mark db commits made old mid new same marked first second =
    leaves-both chip (IsOneOf (mark old) (db ∷ commits)) old mid new (leaves-all chip (Holds (mark old) db) (IsOneOf (mark old) (db ∷ commits)) old mid (λ n left is. inl is) first)
    (leaves-all chip (IsOneOf (mark mid) (db ∷ made)) (IsOneOf (mark old) (db ∷ commits)) mid new
    (λ n left is. subst (λ (commits : List Database). IsOneOf (mark old) (db ∷ commits) n left) (sym same) (subst (λ (m : ℕ). IsOneOf m (db ∷ made) n left) marked is)) second)

-- and ROLLBACK, unless the destination was mute already
pub rolled-moments : {L : Type 0} (chip : L → Chip) (mark : L → ℕ) (db : Database) (commits : List Database) (old mid new : L) (end : CopyEnd) → mark mid ≡ mark old → (end ≡ DestMute → new ≡ mid)
    → ((end ≡ DestMute → ⊥) → LeavesOpen (Holds (mark mid) db) (chip mid) (chip new)) → LeavesOpen (IsOneOf (mark old) (db ∷ commits)) (chip old) (chip mid) → LeavesOpen (IsOneOf (mark old) (db ∷ commits)) (chip old) (chip new)
rolled-moments chip mark db commits old mid new end marked same second first = go (mute-or end)
  where
    go : (end ≡ DestMute) ⊎ (end ≡ DestMute → ⊥) → LeavesOpen (IsOneOf (mark old) (db ∷ commits)) (chip old) (chip new)
    go (inl mute) = subst (λ (l : _). LeavesOpen (IsOneOf (mark old) (db ∷ commits)) (chip old) (chip l)) (sym (same mute)) first
    go (inr heard) =
        leaves-both chip (IsOneOf (mark old) (db ∷ commits)) old mid new first
        (leaves-all chip (Holds (mark mid) db) (IsOneOf (mark old) (db ∷ commits)) mid new (λ n left is. inl (is.0 ∙ marked, is.1)) (second heard))

-- The source gives its rows, or refuses before the destination is asked for anything.
pub fetching-all : {L : Type 0} (is_at : L → Machine → Type 0) (s : Machine) (count : ℕ) (rows : List Values) (p : Planned) (step : Step) (now : L) → GivesAll is_at s count rows p step now → IsFetching is_at s p step now
fetching-all is_at s count rows p step now all = record { closing = Rows count; last = all.last; rows = rows; gives = all.gives }

pub copy-given : (s d : Machine) (object table : List ℕ) (given : Result (List Values) StatusWord) → source_rows s object ≡ given → copy s d object table ≡ put_into d table given
unfolding copy
copy-given s d object table given is = ap (put_into d table) is

pub unopened-copies : {S D : Type 0} (source_at : S → Machine → Type 0) (dest_at : D → Machine → Type 0) (s d : Machine) (object table : List ℕ) (p : Planned) (step : Step) (end : CopyEnd) (source : S) (dest : D)
    → OpensSo source_at s (source_rows s object) p step (Err end) source → dest_at dest d → CopiesSo dest_at d (copy s d object table) end dest
unopened-copies source_at dest_at s d object table p step (SourceRefused word) source dest so at =
    subst (λ (c : Copy). CopiesSo dest_at d c (SourceRefused word) dest) (sym (copy-given s d object table (Err word) so.0))
    (refl, record { machine = d; at = at; like = record { committed = refl; transaction = refl } })
unopened-copies source_at dest_at s d object table p step SourceMute source dest so at = record { machine = d; at = at; like = record { committed = refl; transaction = refl } }
unopened-copies source_at dest_at s d object table p step DestMute source dest so at = tt
unopened-copies source_at dest_at s d object table p step (Copied number) source dest so at = absurd so
unopened-copies source_at dest_at s d object table p step (DestRefused word) source dest so at = absurd so

pub unopened-reads : {L : Type 0} (is_at : L → Machine → Type 0) (is_live : L → Bool) (faults : L → ℕ) (s : Machine) (given : Result (List Values) StatusWord) (p : Planned) (step : Step) (end : CopyEnd) (old now : L)
    → OpensSo is_at s given p step (Err end) now → OfSource {A = Unit {0}} is_live faults (Err end) old now → ReadsSo is_at is_live s now
unopened-reads is_at is_live faults s given p step (SourceRefused word) old now so ends = λ live. so.1
unopened-reads is_at is_live faults s given p step SourceMute old now so ends = λ live. absurd (false≢true (sym ends.gone ∙ live))
unopened-reads is_at is_live faults s given p step DestMute old now so ends = absurd so
unopened-reads is_at is_live faults s given p step (Copied number) old now so ends = absurd so
unopened-reads is_at is_live faults s given p step (DestRefused word) old now so ends = absurd so

-- A source that answers still stays, however the copy of its rows ended.
pub ended-reads : {S D : Type 0} (A : Type 0) (is_at : S → Machine → Type 0) (s_live : S → Bool) (s_faults : S → ℕ) (d_live : D → Bool) (d_faults : D → ℕ) (s : Machine) (P : Type 0) (end : CopyEnd) (source next : S) (dest new : D)
    → FetchesSo {A = A} is_at s (Err end) P next → EndsBy s_live s_faults d_live d_faults end source next dest new → ReadsSo is_at s_live s next
ended-reads A is_at s_live s_faults d_live d_faults s P SourceMute source next dest new so ends = λ live. absurd (false≢true (sym ends.0.gone ∙ live))
ended-reads A is_at s_live s_faults d_live d_faults s P DestMute source next dest new so ends = λ live. so
ended-reads A is_at s_live s_faults d_live d_faults s P (Copied number) source next dest new so ends = λ live. so
ended-reads A is_at s_live s_faults d_live d_faults s P (SourceRefused word) source next dest new so ends = λ live. so
ended-reads A is_at s_live s_faults d_live d_faults s P (DestRefused word) source next dest new so ends = λ live. so
