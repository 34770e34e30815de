-- The links of two readers are lent and put back as they have become.
use Rattle.std.proofs.Common.{◌≡◌, ◌≢◌, ◌⊎◌, ℕ, ◌==◌, Bool, true, false, List, Option, Some, None, refl, sym, ◌∙◌, ap, subst, inl, inr, if◌then◌else◌}
use Rattle.std.specs.Prelude.{option_map, IsSomeAnd, IsTrue, is_some}
use Rattle.std.specs.Option.{option_map_or}
use Rattle.std.proofs.lemmas.Bool.{eqb-true, eqb-false}
use Rattle.std.proofs.lemmas.Option.{same_Some}
use Rattle.scql_model.specs.Database.{Database}
use Rattle.scql_model.specs.Lives.{after_all}
use Rattle.scql_model.specs.Machine.{Machine}
use Rattle.card_link.specs.Link.{Mutes}
use Rattle.planner.specs.StatementLines.{TerminalState}
use Rattle.terminal.specs.Holding.{Holding, Sits}
use Rattle.reader_rack.specs.declared.reader.Reader.{Reader}
use Rattle.reader_rack.specs.RackText.{Held, mute, sits, RackState}
use Rattle.reader_rack.specs.Calls.{MayLend}
use Rattle.reader_rack.specs.Racks.{HoldsCard, IsRack, OthersStay, link_at, reader_at}
use Rattle.reader_rack.specs.Readers.{Holds, IsHeld, answers, lending, with_link}
use Rattle.reader_rack.specs.Statements.{IsReader}
use Rattle.table_copy.specs.Copy.{Copy}
use Rattle.card_asking.specs.Calls.{StillAnswers}
use Rattle.table_copy.specs.Copying.{CopiesSo, EndsBy, ReadsSo, StandsAt, StaysAt}
use Rattle.table_copy.specs.declared.copy_end.CopyEnd.{CopyEnd}
use Rattle.table_copy.specs.declared.copy_end.CopyEnd.TheVariants.{Copied, SourceRefused, DestRefused, SourceMute, DestMute}
use Rattle.copy_run.specs.Racks.{DestHolds, IsCopied, LinkBecomes, LinksChange, SitsOn, SourceHolds, with_link_of}

-- a reader's card that answers has a link, which may be lent
holds-link : {L : Type 0} (is_live : L → Bool) (found : Option (Reader L)) → IsTrue (option_map_or (answers is_live) found false) → IsTrue (option_map_or (λ (reader : Reader L). is_some reader.link) found false)
holds-link is_live None live = live
holds-link {L} is_live (Some reader) live = go reader.link live where
  go : (link : Option L) → IsTrue (option_map_or is_live link false) → IsTrue (is_some link)
  go None live' = live'
  go (Some link) live' = refl

pub may-lend : {L : Type 0} (is_live : L → Bool) (readers : List (Reader L)) (number : ℕ) → HoldsCard is_live readers number → MayLend readers number
may-lend is_live readers number card = record { reader = card.reader; holds = holds-link is_live (reader_at readers number) card.live }

-- and so where another one's was lent before
pub may-lend-too : {L : Type 0} (is_live : L → Bool) (old new : List (Reader L)) (from to : ℕ) → OthersStay from old new → to ≢ from → HoldsCard is_live old to → MayLend new to
may-lend-too is_live old new from to others apart card = record {
  reader = card.reader;
  holds = subst (λ (found : Option (Reader _)). IsTrue (option_map_or (λ (reader : Reader _). is_some reader.link) found false)) (sym (others to card.reader apart)) (holds-link is_live (reader_at old to) card.live);
}

module _ {L : Type 0} where
  -- a reader's link became another one, and the rest of the reader stays
  pub record Relinked (number : ℕ) (old new : List (Reader L)) (link later : L) : Type 0 where
    pub was : Reader L
    pub there : reader_at old number ≡ Some was
    pub held : was.link ≡ Some link
    pub became : reader_at new number ≡ Some (with_link later was)

  no-link : (link : L) → (let none : Option L = None in none) ≡ Some link → ⊥
  no-link link is = absurd cc

  pub relinked : (number : ℕ) (old new : List (Reader L)) (link later : L) (found : Option (Reader L)) → reader_at old number ≡ found → option_map_or (λ (reader : Reader L). reader.link) found None ≡ Some link
      → reader_at new number ≡ option_map (with_link later) (option_map lending found) → Relinked number old new link later
  relinked number old new link later None is held became = absurd (no-link link held)
  relinked number old new link later (Some was) is held became = record { was = was; there = is; held = held; became = became }

-- what a link has become that is another now
pub becomes : {L : Type 0} {number : ℕ} {old new : List (Reader L)} {link later : L} (P : L → L → Type 0) → Relinked number old new link later → P link later → LinkBecomes number old new P
becomes {L} {number} {old} {new} {link} {later} P is holds =
    let first : link_at old number ≡ Some link = ap (λ (found : Option (Reader L)). option_map_or (λ (reader : Reader L). reader.link) found None) is.there ∙ is.held in
    let second : link_at new number ≡ Some later = ap (λ (found : Option (Reader L)). option_map_or (λ (reader : Reader L). reader.link) found None) is.became in
    subst (λ (o : Option L). IsSomeAnd o (λ (x : L). IsSomeAnd (link_at new number) (P x))) (sym first) (subst (λ (o : Option L). IsSomeAnd o (P link)) (sym second) holds)

became-with : {L : Type 0} {number : ℕ} {old new : List (Reader L)} {link later : L} → Relinked number old new link later → reader_at new number ≡ option_map (with_link_of (link_at new number)) (reader_at old number)
became-with {L} {number} {old} {new} {link} {later} is =
    let now : link_at new number ≡ Some later = ap (λ (found : Option (Reader L)). option_map_or (λ (reader : Reader L). reader.link) found None) is.became in
    is.became ∙ sym (ap (λ (found : Option (Reader L)). option_map (with_link_of (link_at new number)) found) is.there ∙ ap (λ (o : Option L). Some (with_link_of o is.was)) now)

pub links-change : {L : Type 0} {from to : ℕ} {old new : List (Reader L)} {source next dest later : L} → Relinked from old new source next → Relinked to old new dest later
    → ((other : ℕ) → IsReader other → other ≢ from → other ≢ to → reader_at new other ≡ reader_at old other) → LinksChange from to old new
links-change first second others = record { source = became-with first; dest = became-with second; others = others }

module _ {L : Type 0} (is_at : L → Machine → Type 0) (is_live : L → Bool) (faults : L → ℕ) where
  -- a reader whose link is at a machine like the one before sits where it sat
  sat : (before : TerminalState) (db : Database) (terminal : Holding) (link later : L) → Sits is_at before terminal link → IsTrue (is_live later) → StandsAt is_at before.machine db later
      → (held : Held) × SitsOn before db held × IsHeld is_at is_live (Some later) terminal held
  sat before db terminal link later there live stands = (
    sits (record { machine = stands.machine; channel = before.channel }),
    record {
      state = record { machine = stands.machine; channel = before.channel };
      is = refl;
      channel = refl;
      committed = stands.like.committed;
      transaction = stands.like.transaction;
    },
    (live, record { at = stands.at; channel = there.channel; knows = there.knows ∙ sym stands.like.transaction }),
  )

  abbrev Source : CopyEnd → TerminalState → Holding → L → Type 0
  Source end s terminal later = (held : Held) × SourceHolds end s held × IsHeld is_at is_live (Some later) terminal held

  as-standing : (m : Machine) (now : L) → StaysAt is_at m now → StandsAt is_at m m.committed now
  as-standing m now stays = record { machine = stays.machine; at = stays.at; like = record { committed = stays.like.committed; transaction = stays.like.transaction } }

  source-held : (end : CopyEnd) (s : TerminalState) (terminal : Holding) (link later dest dest' : L) → Sits is_at s terminal link → ReadsSo is_at is_live s.machine later → EndsBy is_live faults is_live faults end link later dest dest'
      → Source end s terminal later
  source-held SourceMute s terminal link later dest dest' there reads ends = (mute, refl, ends.0.gone)
  source-held DestMute s terminal link later dest dest' there reads ends = go ends.1
    where
      go : StillAnswers is_live faults link later ⊎ Mutes is_live faults link later → Source DestMute s terminal later
      go (inl answers) = let is = sat s s.machine.committed terminal link later there answers.live (as-standing s.machine later (reads answers.live)) in (is.0, inl is.1, is.2)
      go (inr mutes) = (mute, inr refl, mutes.gone)
  source-held (Copied rows) s terminal link later dest dest' there reads ends = sat s s.machine.committed terminal link later there ends.0.live (as-standing s.machine later (reads ends.0.live))
  source-held (SourceRefused word) s terminal link later dest dest' there reads ends = sat s s.machine.committed terminal link later there ends.0.live (as-standing s.machine later (reads ends.0.live))
  source-held (DestRefused word) s terminal link later dest dest' there reads ends = sat s s.machine.committed terminal link later there ends.0.live (as-standing s.machine later (reads ends.0.live))

  abbrev Dest : Copy → CopyEnd → TerminalState → Holding → L → Type 0
  Dest c end d terminal later = (held : Held) × DestHolds c end d held × IsHeld is_at is_live (Some later) terminal held

  dest-done : (c : Copy) (end : CopyEnd) (d : TerminalState) (terminal : Holding) (link later : L) → Sits is_at d terminal link → IsTrue (is_live later) → (end ≡ c.ends) × StandsAt is_at d.machine (after_all d.machine.committed c.commits) later
      → (held : Held) × ((end ≡ c.ends) × SitsOn d (after_all d.machine.committed c.commits) held) × IsHeld is_at is_live (Some later) terminal held
  dest-done c end d terminal link later there live so = let is = sat d (after_all d.machine.committed c.commits) terminal link later there live so.1 in (is.0, (so.0, is.1), is.2)

  dest-held : (c : Copy) (end : CopyEnd) (d : TerminalState) (terminal : Holding) (source source' link later : L) → Sits is_at d terminal link → CopiesSo is_at d.machine c end later → EndsBy is_live faults is_live faults end source source' link later
      → Dest c end d terminal later
  dest-held c DestMute d terminal source source' link later there so ends = (mute, refl, ends.0.gone)
  dest-held c SourceMute d terminal source source' link later there so ends = sat d d.machine.committed terminal link later there ends.1.live (as-standing d.machine later so)
  dest-held c (Copied rows) d terminal source source' link later there so ends = dest-done c (Copied rows) d terminal link later there ends.1.live so
  dest-held c (SourceRefused word) d terminal source source' link later there so ends = dest-done c (SourceRefused word) d terminal link later there ends.1.live so
  dest-held c (DestRefused word) d terminal source source' link later there so ends = dest-done c (DestRefused word) d terminal link later there ends.1.live so

  -- what a reader of the rack held
  was-sitting : (old : List (Reader L)) (current number : ℕ) (state : RackState) (at : TerminalState) (reader : Reader L) (link : L) → IsReader number → IsRack is_at is_live old current state → state.reader number ≡ sits at
      → reader_at old number ≡ Some reader → reader.link ≡ Some link → Sits is_at at reader.terminal link
  was-sitting old current number state at reader link is_reader rack is there held =
      let holds : Holds is_at is_live reader (sits at) = subst (λ (h : Held). Holds is_at is_live reader h) is (rack.holds number reader is_reader there) in
      let inside : IsHeld is_at is_live (Some link) reader.terminal (sits at) = subst (λ (o : Option L). IsHeld is_at is_live o reader.terminal (sits at)) held holds in
      inside.1

  -- A copy between two readers leaves a rack.
  pub copied : (old new : List (Reader L)) (current : ℕ) (from to : ℕ) (c : Copy) (end : CopyEnd) (state : RackState) (s d : TerminalState) (source next dest later : L)
      → IsReader from → IsReader to → Relinked from old new source next → Relinked to old new dest later
      → ((other : ℕ) → IsReader other → other ≢ from → other ≢ to → reader_at new other ≡ reader_at old other)
      → IsRack is_at is_live old current state → state.reader from ≡ sits s → state.reader to ≡ sits d
      → (is_at source s.machine → ReadsSo is_at is_live s.machine next) → (is_at source s.machine → is_at dest d.machine → CopiesSo is_at d.machine c end later) → EndsBy is_live faults is_live faults end source next dest later
      → IsCopied is_at is_live new current state from to s d c end
  copied old new current from to c end state s d source next dest later is_from is_to first second others rack is_s is_d reads copies ends =
      let sits_s = was-sitting old current from state s first.was source is_from rack is_s first.there first.held in
      let sits_d = was-sitting old current to state d second.was dest is_to rack is_d second.there second.held in
      let a = source-held end s first.was.terminal source next dest later sits_s (reads sits_s.at) ends in
      let b = dest-held c end d second.was.terminal source next dest later sits_d (copies sits_s.at sits_d.at) ends in
      record {
        source = a.0;
        dest = b.0;
        rack = record {
          holds = λ n reader is_reader at. at-to a.0 b.0 a.2 b.2 n reader is_reader at (n == to) refl;
          is_current = rack.is_current;
        };
        reads = a.1;
        copies = b.1;
      }
    where
      at-from : (a b : Held) → IsHeld is_at is_live (Some next) first.was.terminal a → (n : ℕ) (reader : Reader L) → IsReader n → reader_at new n ≡ Some reader → n ≢ to → (is : Bool) → (n == from) ≡ is
          → Holds is_at is_live reader (if is then a else state.reader n)
      at-from a b held n reader is_reader at apart true e =
          let here : n ≡ from = eqb-true n from e in
          let same : with_link next first.was ≡ reader = same_Some (with_link next first.was) reader (sym first.became ∙ (ap (λ (m : ℕ). reader_at new m) (sym here) ∙ at)) in
          subst (λ (r : Reader L). Holds is_at is_live r a) same held
      at-from a b held n reader is_reader at apart false e = rack.holds n reader is_reader (sym (others n is_reader (eqb-false n from e) apart) ∙ at)

      at-to : (a b : Held) → IsHeld is_at is_live (Some next) first.was.terminal a → IsHeld is_at is_live (Some later) second.was.terminal b → (n : ℕ) (reader : Reader L) → IsReader n → reader_at new n ≡ Some reader → (is : Bool)
          → (n == to) ≡ is → Holds is_at is_live reader (if is then b else (if n == from then a else state.reader n))
      at-to a b held_a held_b n reader is_reader at true e =
          let here : n ≡ to = eqb-true n to e in
          let same : with_link later second.was ≡ reader = same_Some (with_link later second.was) reader (sym second.became ∙ (ap (λ (m : ℕ). reader_at new m) (sym here) ∙ at)) in
          subst (λ (r : Reader L). Holds is_at is_live r b) same held_b
      at-to a b held_a held_b n reader is_reader at false e = at-from a b held_a n reader is_reader at (eqb-false n to e) (n == from) refl

-- The four calls in turn.
module _ {L : Type 0} (from to : ℕ) (r0 r1 r2 r3 r4 : List (Reader L)) (is_from : IsReader from) (is_to : IsReader to) (apart : to ≢ from) (o1 : OthersStay from r0 r1) (o2 : OthersStay to r1 r2) (o3 : OthersStay from r2 r3) (o4 : OthersStay to r3 r4) where
  pub relinked-from : (link later : L) → link_at r0 from ≡ Some link → reader_at r1 from ≡ option_map lending (reader_at r0 from) → reader_at r3 from ≡ option_map (with_link later) (reader_at r2 from) → Relinked from r0 r4 link later
  relinked-from link later held lent put =
      let other : from ≢ to = λ same. apart (sym same) in
      relinked from r0 r4 link later (reader_at r0 from) refl held
      (o4 from is_from other ∙ (put ∙ ap (option_map (with_link later)) (o2 from is_from other ∙ lent)))

  pub relinked-to : (link later : L) → link_at r1 to ≡ Some link → reader_at r2 to ≡ option_map lending (reader_at r1 to) → reader_at r4 to ≡ option_map (with_link later) (reader_at r3 to) → Relinked to r0 r4 link later
  relinked-to link later held lent put =
      let same : reader_at r1 to ≡ reader_at r0 to = o1 to is_to apart in
      relinked to r0 r4 link later (reader_at r0 to) refl (ap (λ (found : Option (Reader L)). option_map_or (λ (reader : Reader L). reader.link) found None) (sym same) ∙ held)
      (put ∙ ap (option_map (with_link later)) (o3 to is_to apart ∙ (lent ∙ ap (option_map lending) same)))

  pub others-still : (other : ℕ) → IsReader other → other ≢ from → other ≢ to → reader_at r4 other ≡ reader_at r0 other
  others-still other is_reader not_from not_to =
      o4 other is_reader not_to ∙ (o3 other is_reader not_from ∙ (o2 other is_reader not_to ∙ o1 other is_reader not_from))
