-- A copy for two users goes on behind the presenting of each.
use Rattle.std.proofs.Common.{◌≡◌, Bool, true, false, List, [], refl, sym, ◌∙◌, ap, subst}
use Rattle.std.specs.Prelude.{if◌then◌else◌}
use Rattle.scql_base.specs.declared.words.StatusWord.{StatusWord}
use Rattle.scql_model.specs.Database.{Database}
use Rattle.scql_model.specs.Lives.{after_all}
use Rattle.scql_model.specs.Machine.{Machine}
use Rattle.planner.specs.Words.{is_done}
use Rattle.card_asking.specs.Giving.{IsLike}
use Rattle.table_copy.specs.Copy.{Copy, copy}
use Rattle.table_copy.specs.Copying.{CopiesSo, StandsAt, StaysAt}
use Rattle.table_copy.specs.declared.copy_end.CopyEnd.{CopyEnd}
use Rattle.table_copy.specs.declared.copy_end.CopyEnd.TheVariants.{Copied, SourceRefused, DestRefused, SourceMute, DestMute}
use Rattle.copy_run.specs.declared.names.CopyNames.{CopyNames}
use Rattle.copy_run.specs.Copies.{copy_for, copy_to}
use Rattle.card_asking.specs.Presenting.{IsBehind, presented}

abbrev refused : CopyEnd → Copy
refused end = record { ends = end; commits = [] }

pub copy_to-done : (s d : Machine) (names : CopyNames) → is_done (presented d names.dest_user).reply.word ≡ true → copy_to s d names ≡ copy s (presented d names.dest_user).machine names.object names.table
unfolding copy_to
copy_to-done s d names is = ap (λ (b : Bool). if b then copy s (presented d names.dest_user).machine names.object names.table else refused (DestRefused (presented d names.dest_user).reply.word)) is

pub copy_to-refused : (s d : Machine) (names : CopyNames) → is_done (presented d names.dest_user).reply.word ≡ false → copy_to s d names ≡ refused (DestRefused (presented d names.dest_user).reply.word)
unfolding copy_to
copy_to-refused s d names is = ap (λ (b : Bool). if b then copy s (presented d names.dest_user).machine names.object names.table else refused (DestRefused (presented d names.dest_user).reply.word)) is

pub copy_for-done : (s d : Machine) (names : CopyNames) → is_done (presented s names.source_user).reply.word ≡ true → copy_for s d names ≡ copy_to (presented s names.source_user).machine d names
unfolding copy_for
copy_for-done s d names is = ap (λ (b : Bool). if b then copy_to (presented s names.source_user).machine d names else refused (SourceRefused (presented s names.source_user).reply.word)) is

pub copy_for-refused : (s d : Machine) (names : CopyNames) → is_done (presented s names.source_user).reply.word ≡ false → copy_for s d names ≡ refused (SourceRefused (presented s names.source_user).reply.word)
unfolding copy_for
copy_for-refused s d names is = ap (λ (b : Bool). if b then copy_to (presented s names.source_user).machine d names else refused (SourceRefused (presented s names.source_user).reply.word)) is

module _ {L : Type 0} (is_at : L → Machine → Type 0) where
  -- what stays of a machine stays of one that is like it
  stays-behind : (d next : Machine) (now : L) → IsLike d next → StaysAt is_at next now → StaysAt is_at d now
  stays-behind d next now like stays =
      record { machine = stays.machine; at = stays.at; like = record { committed = stays.like.committed ∙ like.committed; transaction = stays.like.transaction ∙ like.transaction } }

  stands-behind : (d next : Machine) (commits : List Database) (now : L) → IsLike d next → StandsAt is_at next (after_all next.committed commits) now → StandsAt is_at d (after_all d.committed commits) now
  stands-behind d next commits now like stands = record {
    machine = stands.machine;
    at = stands.at;
    like = record { committed = stands.like.committed ∙ ap (λ (db : Database). after_all db commits) like.committed; transaction = stands.like.transaction ∙ like.transaction };
  }

  pub copies-behind : (d next : Machine) (c : Copy) (end : CopyEnd) (now : L) → IsLike d next → CopiesSo is_at next c end now → CopiesSo is_at d c end now
  copies-behind d next c DestMute now like so = tt
  copies-behind d next c SourceMute now like so = stays-behind d next now like so
  copies-behind d next c (Copied rows) now like so = (so.0, stands-behind d next c.commits now like so.1)
  copies-behind d next c (SourceRefused word) now like so = (so.0, stands-behind d next c.commits now like so.1)
  copies-behind d next c (DestRefused word) now like so = (so.0, stands-behind d next c.commits now like so.1)

  -- the destination refused its user
  pub dest-refused : (s d : Machine) (names : CopyNames) (word : StatusWord) (now : L) → is_done (presented d names.dest_user).reply.word ≡ false → word ≡ (presented d names.dest_user).reply.word
      → IsBehind is_at d (presented d names.dest_user) now → CopiesSo is_at d (copy_to s d names) (DestRefused word) now
  dest-refused s d names word now is said behind =
      subst (λ (c : Copy). CopiesSo is_at d c (DestRefused word) now) (sym (copy_to-refused s d names is))
      (ap (λ (w : StatusWord). DestRefused w) said, record { machine = (presented d names.dest_user).machine; at = behind.at; like = record { committed = behind.like.committed; transaction = behind.like.transaction } })

  -- the source refused its own
  pub source-refused : (s d : Machine) (names : CopyNames) (word : StatusWord) (now : L) → is_done (presented s names.source_user).reply.word ≡ false → word ≡ (presented s names.source_user).reply.word
      → is_at now d → CopiesSo is_at d (copy_for s d names) (SourceRefused word) now
  source-refused s d names word now is said at =
      subst (λ (c : Copy). CopiesSo is_at d c (SourceRefused word) now) (sym (copy_for-refused s d names is))
      (ap (λ (w : StatusWord). SourceRefused w) said, record { machine = d; at = at; like = record { committed = refl; transaction = refl } })
