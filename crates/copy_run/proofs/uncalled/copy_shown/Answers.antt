use Rattle.table_copy.specs.Copy.{copy}
use Rattle.std.proofs.Common.{◌≡◌, ◌≢◌, ℕ, ◌∷◌, Option, sym, ◌∙◌, ap, subst, rules}
use Rattle.std.specs.Prelude.{IsSomeAnd}
use Rattle.scql_model.specs.Machine.{Machine}
use Rattle.card_link.specs.Link.{IsOneOf, LeavesOpen}
use Rattle.reader_rack.specs.Racks.{reader_at}
use Rattle.reader_rack.specs.Statements.{IsReader}
use Rattle.copy_run.specs.Racks.{IsCopied, LinkBecomes}
use Rattle.copy_run.proofs.Relinking.{Relinked, becomes, copied, links-change, may-lend, may-lend-too, others-still, relinked-from, relinked-to}
use Rattle.copy_run.proofs.uncalled.copy_shown.Goals as goal

pub take-source-requires : goal.take-source-requires
take-source-requires g c = (search rules, may-lend g.L.CardLink.is_live c.args.rack.now.readers c.args.from c.requires.source)

pub take-dest-requires : goal.take-dest-requires
take-dest-requires g c = (search rules, may-lend-too g.L.CardLink.is_live c.args.rack.now.readers c.take-source.new.self.readers c.args.from c.args.to c.take-source.ensures.leaves.others c.requires.apart c.requires.dest)

pub returns : goal.returns
returns g c =
    let from = c.args.from in
    let to = c.args.to in
    let r0 = c.args.rack.now.readers in
    let r4 = c.put_back-2.new.self.readers in
    let is_from = c.requires.source.reader in
    let is_to = c.requires.dest.reader in
    let first : Relinked from r0 r4 c.take-source.result c.copy-end.new.source =
    relinked-from from to r0 c.take-source.new.self.readers c.take-dest.new.self.readers c.put_back.new.self.readers r4 is_from is_to c.requires.apart c.take-source.ensures.leaves.others c.take-dest.ensures.leaves.others c.put_back.ensures.leaves.others
    c.put_back-2.ensures.leaves.others
    c.take-source.result c.copy-end.new.source c.take-source.ensures.link c.take-source.ensures.lent c.put_back.ensures.holds in
    let second : Relinked to r0 r4 c.take-dest.result c.copy-end.new.dest =
    relinked-to from to r0 c.take-source.new.self.readers c.take-dest.new.self.readers c.put_back.new.self.readers r4 is_from is_to c.requires.apart c.take-source.ensures.leaves.others c.take-dest.ensures.leaves.others c.put_back.ensures.leaves.others
    c.put_back-2.ensures.leaves.others
    c.take-dest.result c.copy-end.new.dest c.take-dest.ensures.link c.take-dest.ensures.lent c.put_back-2.ensures.holds in
    let others : (other : ℕ) → IsReader other → other ≢ from → other ≢ to → reader_at r4 other ≡ reader_at r0 other =
    others-still from to r0 c.take-source.new.self.readers c.take-dest.new.self.readers c.put_back.new.self.readers r4 is_from is_to c.requires.apart c.take-source.ensures.leaves.others c.take-dest.ensures.leaves.others c.put_back.ensures.leaves.others
    c.put_back-2.ensures.leaves.others in
    let P : g.row.L.Denot → g.row.L.Denot → g.row.L.Denot → Type 0 = λ source link later. (s d : Machine) → g.L.CardLink.is_at source s → g.L.CardLink.is_at link d
    → LeavesOpen (IsOneOf (g.L.CardLink.mark link) (d.committed ∷ (copy s d c.args.object c.args.table).commits)) (g.L.CardLink.chip link) (g.L.CardLink.chip later) in
    record {
      ends = λ state s d rack is_s is_d.
          subst (λ (current : ℕ). IsCopied g.L.CardLink.is_at g.L.CardLink.is_live r4 current state from to s d (copy s.machine d.machine c.args.object c.args.table) c.copy-end.result)
          (ap (λ current. current.number) (sym c.take-source.ensures.leaves.current ∙ (sym c.take-dest.ensures.leaves.current ∙ (sym c.put_back.ensures.leaves.current ∙ sym c.put_back-2.ensures.leaves.current))))
          (copied g.L.CardLink.is_at g.L.CardLink.is_live g.L.CardLink.faults r0 r4 _ from to (copy s.machine d.machine c.args.object c.args.table) c.copy-end.result state s d c.take-source.result c.copy-end.new.source c.take-dest.result c.copy-end.new.dest is_from is_to first second
          others
          rack is_s is_d
          (λ at. (c.copy-end.ensures.read s.machine at).reads) (λ source_at dest_at. (c.copy-end.ensures.copied s.machine d.machine source_at dest_at).copies) c.copy-end.ensures.leaves.causes);
      read = becomes _ first c.copy-end.ensures.read;
      undone = becomes _ second c.copy-end.ensures.undone;
      dest_moments =
          subst (λ (o : Option g.row.L.Denot). IsSomeAnd o (λ (source : g.row.L.Denot). LinkBecomes to r0 r4 (P source))) (sym c.take-source.ensures.link)
          (becomes (P c.take-source.result) second (λ s d source_at dest_at. (c.copy-end.ensures.copied s d source_at dest_at).dest_moments));
      causes = search rules;
      links = links-change first second others;
      rest = search rules;
      shows = search rules;
    }
