-- A copy goes on, row by row.
use Rattle.std.proofs.Common.{◌≡◌, ◌⊎◌, ℕ, ◌+◌, arith, Bool, List, [], ◌∷◌, drop, length, IfSome, Result, Ok, Err, refl, sym, ◌∙◌, ap, subst, inl, inr}
use Rattle.eeprom.specs.Chip.{Chip}
use Rattle.scql_base.specs.declared.words.StatusWord.{StatusWord}
use Rattle.scql_base.specs.declared.operation.Command.{Command}
use Rattle.scql_model.specs.Database.{Database}
use Rattle.scql_model.specs.Machine.{Machine, actor}
use Rattle.scql_model.specs.Matching.{Values}
use Rattle.scql_model.specs.Opens.{Opens}
use Rattle.scql_model.specs.Refusals.{◌>>=◌}
use Rattle.card_link.specs.Link.{Holds, IsOneOf, LeavesOpen, Mutes}
use Rattle.planner.specs.declared.closing.Closing.{Closing}
use Rattle.planner.specs.declared.closing.Closing.TheVariants.{Nothing, Fine, Rows, Cut, Refused}
use Rattle.planner.specs.declared.step.Step.{Step}
use Rattle.planner.specs.declared.step.Step.TheVariants.{Send, Row, ResetCard, Done}
use Rattle.planner.specs.Planned.{Planned}
use Rattle.card_asking.specs.Giving.{GivesRows, IsNextRow, behind_step}
use Rattle.card_asking.proofs.Calls.{answers-both, mutes-then}
use Rattle.card_asking.proofs.Moments.{leaves-none}
use Rattle.card_asking.proofs.Rows.{next-row, all-given}
use Rattle.table_copy.specs.Copy.{row_copied, rows_copied}
use Rattle.card_asking.specs.Calls.{StillAnswers}
use Rattle.table_copy.specs.Copying.{StaysAt, EndsBy, GoesBy}
use Rattle.table_copy.specs.Filling.{Piece, UnlessSourceMute, OfDest, OfSource, IsFetching, FetchesSo, InsertsSo, HasRow, PutsSo, Together, TurnsSo, IsFilled, IsCommitted, CommitsSo, FillsSo, commits_by, counted_by, fetched_by, goes_on_by, has_row, whether, with_row}
use Rattle.table_copy.specs.Progress.{IsCounted, IsCountedIn}
use Rattle.table_copy.specs.declared.copy_end.CopyEnd.{CopyEnd}
use Rattle.table_copy.specs.declared.copy_end.CopyEnd.TheVariants.{Copied, SourceRefused, DestRefused, SourceMute, DestMute}
use Rattle.table_copy.proofs.Opening.{gives-stays, rows-go_on}

-- A row is put in.
pub has-row : {L : Type 0} (is_at : L → Machine → Type 0) (s : Machine) (closing : Closing) (last : Machine) (rows : List Values) (p : Planned) (step : Step) (now : L) → GivesRows is_at s closing last rows p step now → HasRow step rows p.row
has-row is_at s closing last rows p (Send c) now gives = tt
has-row is_at s closing last rows p (Row c) now gives = next-row is_at s closing last rows p c now gives
has-row is_at s closing last rows p ResetCard now gives = tt
has-row is_at s closing last rows p (Done closed) now gives = tt

-- it is one of those that are counted
pub row-counted : {L : Type 0} (is_at : L → Machine → Type 0) (s last : Machine) (count passed : ℕ) (rows : List Values) (p : Planned) (step : Step) (now : L) → GivesRows is_at s (Rows count) last rows p step now → passed + length rows ≡ count
    → with_row (has_row step) passed + length (behind_step step rows) ≡ count
row-counted is_at s last count passed rows p (Send c) now gives counted = omega (arith, counted)
row-counted is_at s last count passed rows p (Row c) now gives counted = first rows (next-row is_at s (Rows count) last rows p c now gives) counted
  where
    first : (rows : List Values) → IsNextRow rows p.row → passed + length rows ≡ count → passed + 1 + length (drop 1 rows) ≡ count
    first [] n counted = absurd cc
    first (values ∷ rest) n counted = omega (arith, counted)
row-counted is_at s last count passed rows p ResetCard now gives counted = omega (arith, counted)
row-counted is_at s last count passed rows p (Done closed) now gives counted = omega (arith, counted)

module _ {L : Type 0} (is_at : L → Machine → Type 0) (d : Machine) (table : List ℕ) where
  abbrev copied : Database → List Values → Result Database StatusWord
  copied db rows = rows_copied d.committed.limit (actor d 0) table db rows

  first-put : (c : Command) (values : Values) (rest : List Values) (db : Database) (r : Piece (Unit {0})) (now : L) → InsertsSo is_at d db (row_copied d.committed.limit (actor d 0) table db values) r now
      → PutsSo is_at d table (Row c) (values ∷ rest) db r now
  first-put c values rest db (Ok x) now so = (so.0, ap (λ (added : Result Database StatusWord). added >>= λ next. copied next rest) so.1, so.2)
  first-put c values rest db (Err (DestRefused word)) now so = ap (λ (added : Result Database StatusWord). added >>= λ next. copied next rest) so.0
  first-put c values rest db (Err DestMute) now so = tt
  first-put c values rest db (Err (Copied rows)) now so = absurd so
  first-put c values rest db (Err (SourceRefused word)) now so = absurd so
  first-put c values rest db (Err SourceMute) now so = absurd so

  pub puts-row : (c : Command) (step : Step) (rows : List Values) (octets : List ℕ) (db : Database) (r : Piece (Unit {0})) (now : L) → step ≡ Row c → (n : IsNextRow rows octets)
      → InsertsSo is_at d db (row_copied d.committed.limit (actor d 0) table db n.values) r now → PutsSo is_at d table step rows db r now
  puts-row c step rows octets db r now is n so =
      subst (λ (step : Step). PutsSo is_at d table step rows db r now) (sym is)
      (subst (λ (rows : List Values). PutsSo is_at d table (Row c) rows db r now) (sym n.split) (first-put c n.values n.rest db r now so))

  -- the destination refused it
  pub turns-refused : {A : Type 0} (P : A → Type 0) (step : Step) (rows : List Values) (db : Database) (end : CopyEnd) (total : Result Database StatusWord) (now : L) → copied db rows ≡ total → PutsSo is_at d table step rows db (Err end) now
      → TurnsSo total (Err end) P
  turns-refused P step rows db (DestRefused word) total now leads so = sym leads ∙ so
  turns-refused P step rows db DestMute total now leads so = tt
  turns-refused P step rows db (Copied number) total now leads so = absurd so
  turns-refused P step rows db (SourceRefused word) total now leads so = absurd so
  turns-refused P step rows db SourceMute total now leads so = absurd so

-- The source goes on.
pub fetches-on : {L : Type 0} (is_at : L → Machine → Type 0) (is_live : L → Bool) (faults : L → ℕ) (s : Machine) (q : Planned) (next : Step) (r : Piece (Unit {0})) (old now : L) → OfSource is_live faults r old now
    → UnlessSourceMute r (IsFetching is_at s q next now) → FetchesSo is_at s r (IsFetching is_at s q next now) now
fetches-on is_at is_live faults s q next (Ok x) old now ends fetching = fetching (λ is. absurd cc)
fetches-on is_at is_live faults s q next (Err (SourceRefused word)) old now ends fetching = let f = fetching (λ is. absurd cc) in gives-stays is_at s f.last f.closing f.rows q next now f.gives
fetches-on is_at is_live faults s q next (Err SourceMute) old now ends fetching = tt
fetches-on is_at is_live faults s q next (Err DestMute) old now ends fetching = absurd ends
fetches-on is_at is_live faults s q next (Err (Copied number)) old now ends fetching = absurd ends
fetches-on is_at is_live faults s q next (Err (DestRefused word)) old now ends fetching = absurd ends

-- at its last step it gave all
pub all-fetched : {L : Type 0} (is_at : L → Machine → Type 0) (s last : Machine) (count : ℕ) (rows : List Values) (p : Planned) (closed : Closing) (now : L) → GivesRows is_at s (Rows count) last rows p (Done closed) now → rows ≡ []
all-fetched is_at s last count rows p closed now gives = (all-given is_at s (Rows count) last rows p closed now gives).none

-- before any call
pub holds-same : {L : Type 0} (chip : L → Chip) (mark : L → ℕ) (db now : Database) (l : L) → mark l ≡ (chip l).still.mark → IfSome (chip l).image (λ image. Opens image now) → now ≡ db → LeavesOpen (Holds (mark l) db) (chip l) (chip l)
holds-same chip mark db now l marks opens same = leaves-none chip mark (Holds (mark l) db) l now marks opens (refl, same)

module _ {S D : Type 0} (s_live : S → Bool) (s_faults : S → ℕ) (d_live : D → Bool) (d_faults : D → ℕ) (source mid next : S) (dest half new : D) (s_first : StillAnswers s_live s_faults source mid) (d_first : StillAnswers d_live d_faults dest half) where
  pub ends-then : (end : CopyEnd) → EndsBy s_live s_faults d_live d_faults end mid next half new → EndsBy s_live s_faults d_live d_faults end source next dest new
  ends-then DestMute ends = (mutes-then d_live d_faults dest half new d_first ends.0, both ends.1)
    where
      both : StillAnswers s_live s_faults mid next ⊎ Mutes s_live s_faults mid next → StillAnswers s_live s_faults source next ⊎ Mutes s_live s_faults source next
      both (inl answers) = inl (answers-both s_live s_faults source mid next s_first answers)
      both (inr mutes) = inr (mutes-then s_live s_faults source mid next s_first mutes)
  ends-then SourceMute ends = (mutes-then s_live s_faults source mid next s_first ends.0, answers-both d_live d_faults dest half new d_first ends.1)
  ends-then (Copied number) ends = (answers-both s_live s_faults source mid next s_first ends.0, answers-both d_live d_faults dest half new d_first ends.1)
  ends-then (SourceRefused word) ends = (answers-both s_live s_faults source mid next s_first ends.0, answers-both d_live d_faults dest half new d_first ends.1)
  ends-then (DestRefused word) ends = (answers-both s_live s_faults source mid next s_first ends.0, answers-both d_live d_faults dest half new d_first ends.1)

  pub goes-then : {A : Type 0} (r : Piece A) → GoesBy s_live s_faults d_live d_faults r mid next half new → GoesBy s_live s_faults d_live d_faults r source next dest new
  goes-then (Ok x) goes = (answers-both s_live s_faults source mid next s_first goes.0, answers-both d_live d_faults dest half new d_first goes.1)
  goes-then (Err (Copied number)) goes = absurd goes
  goes-then (Err (SourceRefused word)) goes = ends-then (SourceRefused word) goes
  goes-then (Err (DestRefused word)) goes = ends-then (DestRefused word) goes
  goes-then (Err SourceMute) goes = ends-then SourceMute goes
  goes-then (Err DestMute) goes = ends-then DestMute goes

-- what ends a piece is no whole copy
pub goes-ends : {S D : Type 0} (A : Type 0) (s_live : S → Bool) (s_faults : S → ℕ) (d_live : D → Bool) (d_faults : D → ℕ) (end : CopyEnd) (source next : S) (dest new : D)
    → GoesBy {A = A} s_live s_faults d_live d_faults (Err end) source next dest new → EndsBy s_live s_faults d_live d_faults end source next dest new
goes-ends A s_live s_faults d_live d_faults (Copied number) source next dest new goes = absurd goes
goes-ends A s_live s_faults d_live d_faults (SourceRefused word) source next dest new goes = goes
goes-ends A s_live s_faults d_live d_faults (DestRefused word) source next dest new goes = goes
goes-ends A s_live s_faults d_live d_faults SourceMute source next dest new goes = goes
goes-ends A s_live s_faults d_live d_faults DestMute source next dest new goes = goes

-- nor is it of another piece
pub goes-of : {S D : Type 0} (A B : Type 0) (s_live : S → Bool) (s_faults : S → ℕ) (d_live : D → Bool) (d_faults : D → ℕ) (end : CopyEnd) (source next : S) (dest new : D)
    → GoesBy {A = A} s_live s_faults d_live d_faults (Err end) source next dest new → GoesBy {A = B} s_live s_faults d_live d_faults (Err end) source next dest new
goes-of A B s_live s_faults d_live d_faults (Copied number) source next dest new goes = goes
goes-of A B s_live s_faults d_live d_faults (SourceRefused word) source next dest new goes = goes
goes-of A B s_live s_faults d_live d_faults (DestRefused word) source next dest new goes = goes
goes-of A B s_live s_faults d_live d_faults SourceMute source next dest new goes = goes
goes-of A B s_live s_faults d_live d_faults DestMute source next dest new goes = goes

pub goes-counted : {S D : Type 0} (A : Type 0) (s_live : S → Bool) (s_faults : S → ℕ) (d_live : D → Bool) (d_faults : D → ℕ) (end : CopyEnd) (rows : ℕ) (source next : S) (dest new : D)
    → GoesBy {A = A} s_live s_faults d_live d_faults (Err end) source next dest new → IsCounted end rows
goes-counted A s_live s_faults d_live d_faults (Copied number) rows source next dest new goes = absurd goes
goes-counted A s_live s_faults d_live d_faults (SourceRefused word) rows source next dest new goes = tt
goes-counted A s_live s_faults d_live d_faults (DestRefused word) rows source next dest new goes = tt
goes-counted A s_live s_faults d_live d_faults SourceMute rows source next dest new goes = tt
goes-counted A s_live s_faults d_live d_faults DestMute rows source next dest new goes = tt

pub source-counted : {L : Type 0} (A : Type 0) (is_live : L → Bool) (faults : L → ℕ) (end : CopyEnd) (rows : ℕ) (old new : L) → OfSource {A = A} is_live faults (Err end) old new → IsCounted end rows
source-counted A is_live faults (Copied number) rows old new of = absurd of
source-counted A is_live faults (SourceRefused word) rows old new of = tt
source-counted A is_live faults (DestRefused word) rows old new of = tt
source-counted A is_live faults SourceMute rows old new of = tt
source-counted A is_live faults DestMute rows old new of = tt

pub dest-counted : {L : Type 0} (A : Type 0) (is_live : L → Bool) (faults : L → ℕ) (end : CopyEnd) (rows : ℕ) (old new : L) → OfDest {A = A} is_live faults (Err end) old new → IsCounted end rows
dest-counted A is_live faults (Copied number) rows old new of = absurd of
dest-counted A is_live faults (SourceRefused word) rows old new of = tt
dest-counted A is_live faults (DestRefused word) rows old new of = tt
dest-counted A is_live faults SourceMute rows old new of = tt
dest-counted A is_live faults DestMute rows old new of = tt

-- The plan is at its end.
pub counted-done : (number : ℕ) (step : Step) (closing : Closing) (done : Piece (Unit {0})) (r : Piece ℕ) → step ≡ Done closing → done ≡ goes_on_by step → r ≡ counted_by number done → r ≡ counted_by number (whether (fetched_by closing))
counted-done number step closing done r is goes counted = counted ∙ (ap (counted_by number) goes ∙ ap (λ (step : Step). counted_by number (goes_on_by step)) is)

-- a source that stays as it was does so however the piece ended
pub reads-stayed : {L A : Type 0} (is_at : L → Machine → Type 0) (s : Machine) (r : Piece A) (now : L) → StaysAt is_at s now → FetchesSo is_at s r (StaysAt is_at s now) now
reads-stayed is_at s (Ok x) now stays = stays
reads-stayed is_at s (Err (Copied rows)) now stays = stays
reads-stayed is_at s (Err (SourceRefused word)) now stays = stays
reads-stayed is_at s (Err (DestRefused word)) now stays = stays
reads-stayed is_at s (Err SourceMute) now stays = tt
reads-stayed is_at s (Err DestMute) now stays = stays

pub fetched-goes : {S D : Type 0} (s_live : S → Bool) (s_faults : S → ℕ) (d_live : D → Bool) (d_faults : D → ℕ) (number : ℕ) (closing : Closing) (source next : S) (dest new : D) → StillAnswers s_live s_faults source next → StillAnswers d_live d_faults dest new
    → GoesBy s_live s_faults d_live d_faults (counted_by number (whether (fetched_by closing))) source next dest new
fetched-goes s_live s_faults d_live d_faults number Nothing source next dest new s d = (s, d)
fetched-goes s_live s_faults d_live d_faults number Fine source next dest new s d = (s, d)
fetched-goes s_live s_faults d_live d_faults number (Rows all) source next dest new s d = (s, d)
fetched-goes s_live s_faults d_live d_faults number (Cut all) source next dest new s d = (s, d)
fetched-goes s_live s_faults d_live d_faults number (Refused word) source next dest new s d = (s, d)

pub fetched-counted : (number : ℕ) (closing : Closing) → IsCountedIn (counted_by number (whether (fetched_by closing))) number
fetched-counted number Nothing = tt
fetched-counted number Fine = tt
fetched-counted number (Rows all) = refl
fetched-counted number (Cut all) = tt
fetched-counted number (Refused word) = tt

pub filled : {S D : Type 0} (source_at : S → Machine → Type 0) (dest_at : D → Machine → Type 0) (s d : Machine) (count passed : ℕ) (table : List ℕ) (total : Result Database StatusWord) (p : Planned) (closing : Closing) (source : S) (dest : D)
    → Together source_at dest_at s d count passed table total p (Done closing) source dest → TurnsSo total (counted_by passed (whether (fetched_by closing))) (λ (number : ℕ). IsFilled dest_at d count total number dest)
filled source_at dest_at s d count passed table total p closing source dest together =
    let none = all-fetched source_at s together.gives.last count together.left p closing source together.gives.gives in
    let goes_on = rows-go_on source_at s together.gives.last count together.left p (Done closing) source together.gives.gives in
    subst (λ (r : Piece (Unit {0})). TurnsSo total (counted_by passed r) (λ (number : ℕ). IsFilled dest_at d count total number dest)) (sym goes_on)
    (record {
      counted = omega (arith, ap length none, together.counted);
      db = together.db;
      made = sym together.leads ∙ ap (λ (rows : List Values). rows_copied d.committed.limit (actor d 0) table together.db rows) none;
      copies = together.copies;
    })

-- What ends a piece ends the copy, whatever the piece was for.
pub turns-ended : {A B : Type 0} (P : A → Type 0) (Q : B → Type 0) (total : Result Database StatusWord) (end : CopyEnd) → TurnsSo total (Err end) P → TurnsSo total (Err end) Q
turns-ended P Q total (DestRefused word) so = so
turns-ended P Q total SourceMute so = tt
turns-ended P Q total DestMute so = tt
turns-ended P Q total (Copied number) so = absurd so
turns-ended P Q total (SourceRefused word) so = absurd so

pub reads-ended : (A B : Type 0) {L : Type 0} (is_at : L → Machine → Type 0) (s : Machine) (P Q : Type 0) (now : L) (end : CopyEnd) → FetchesSo {A = A} is_at s (Err end) P now → FetchesSo {A = B} is_at s (Err end) Q now
reads-ended A B is_at s P Q now SourceMute so = tt
reads-ended A B is_at s P Q now DestMute so = so
reads-ended A B is_at s P Q now (Copied number) so = so
reads-ended A B is_at s P Q now (SourceRefused word) so = so
reads-ended A B is_at s P Q now (DestRefused word) so = so

pub heard-ended : (end : CopyEnd) (r : Piece ℕ) → r ≡ Err end → (r ≡ Err DestMute → ⊥) → (piece : Piece (Unit {0})) → piece ≡ Err end → piece ≡ Err DestMute → ⊥
heard-ended end r ended heard piece is mute = heard (ended ∙ ap (λ (end : CopyEnd). Err end) (let same : end ≡ DestMute = cc in same))

-- All rows are in, and are committed.
pub fill-turns : {L : Type 0} (is_at : L → Machine → Type 0) (d : Machine) (count : ℕ) (total : Result Database StatusWord) (number : ℕ) (mid now : L) → (f : IsFilled is_at d count total number mid) → (r : Piece (Unit {0}))
    → CommitsSo is_at d f.db r now → TurnsSo total (counted_by number r) (λ (number : ℕ). IsCommitted is_at d count total number now)
fill-turns is_at d count total number mid now f (Ok x) so = record { counted = f.counted; db = f.db; made = f.made; stands = so }
fill-turns is_at d count total number mid now f (Err DestMute) so = tt
fill-turns is_at d count total number mid now f (Err (Copied rows)) so = absurd so
fill-turns is_at d count total number mid now f (Err (SourceRefused word)) so = absurd so
fill-turns is_at d count total number mid now f (Err (DestRefused word)) so = absurd so
fill-turns is_at d count total number mid now f (Err SourceMute) so = absurd so

pub fill-fills : {L : Type 0} (is_at : L → Machine → Type 0) (d : Machine) (db : Database) (number : ℕ) (now : L) (r : Piece (Unit {0})) → CommitsSo is_at d db r now → FillsSo is_at d (counted_by number r) now
fill-fills is_at d db number now (Ok x) so = tt
fill-fills is_at d db number now (Err DestMute) so = tt
fill-fills is_at d db number now (Err (Copied rows)) so = absurd so
fill-fills is_at d db number now (Err (SourceRefused word)) so = absurd so
fill-fills is_at d db number now (Err (DestRefused word)) so = absurd so
fill-fills is_at d db number now (Err SourceMute) so = absurd so

pub fill-moment : (mark later : ℕ) (x db : Database) (total : Result Database StatusWord) (g : ℕ) (left : Database) → later ≡ mark → total ≡ Ok db → IsOneOf later (x ∷ db ∷ []) g left → IsOneOf mark (x ∷ commits_by total) g left
fill-moment mark later x db total g left same made is =
    subst (λ (total : Result Database StatusWord). IsOneOf mark (x ∷ commits_by total) g left) (sym made) (subst (λ (n : ℕ). IsOneOf n (x ∷ db ∷ []) g left) same is)
