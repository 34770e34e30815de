-- The record goes behind the others.
use Rattle.std.proofs.Common.{◌≡◌, ◌++◌, true, is_ok, ap, arith, refl, sym, ◌∙◌}
use Rattle.card.specs.Pool.{Pool}
use Rattle.card.proofs.Pooled.{added-places, length-pool, pool-added}
use Rattle.card.proofs.kept_records.KeptRecords.push.Goals as goal

pub push_reserved-requires : goal.push_reserved-requires
push_reserved-requires c =
    let many = length-pool c.self.inside.octets.items c.self.inside.places.items _ c.args.self.now c.self.view_is c.self.invariant.all in
    let cells = ap (λ (p : Pool). p.cells) c.self.view_is in
    omega (arith, c.self.inside.places.ok.0, many, cells, c.requires.room)

pub invariant_of-self : goal.invariant_of-self
invariant_of-self c =
    let extended : is_ok c.extend_from_slice.result ≡ true = sym c.is_ok-extended.ensures.value ∙ c.if-prove.false in
    let behind : c.extend_from_slice.new.self.items ≡ c.self.inside.octets.items ++ c.args.octets.now = rw extended at c.extend_from_slice.ensures.items in record {
      all = rw (behind, c.push_reserved.ensures.items)
          (added-places c.self.inside.octets.items c.args.octets.now c.self.inside.places.items _ c.args.entry.now c.self.invariant.all (c.len.ensures ∙ c.self.inside.octets.ok.0) refl c.requires.is c.stamp.ensures);
      room = omega (arith, c.self.invariant.room, c.extend_from_slice.ensures.capacity, c.push_reserved.ensures.capacity);
      few = rw c.push_reserved.ensures.capacity c.self.invariant.few;
    }

pub returns : goal.returns
returns c =
    let extended : is_ok c.extend_from_slice.result ≡ true = sym c.is_ok-extended.ensures.value ∙ c.if-prove.false in
    let behind : c.extend_from_slice.new.self.items ≡ c.self.inside.octets.items ++ c.args.octets.now = rw extended at c.extend_from_slice.ensures.items in
    pool-added c.self.inside.octets.items c.args.octets.now c.extend_from_slice.new.self.items c.self.inside.places.items c.push_reserved.new.self.items _ _ _ c.args.self.now c.args.entry.now c.self.view_is c.self.invariant.all
    (c.len.ensures ∙ c.self.inside.octets.ok.0) refl c.requires.is behind c.push_reserved.ensures.items c.push_reserved.ensures.capacity
