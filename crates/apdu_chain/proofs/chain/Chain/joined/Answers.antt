use Rattle.std.proofs.Common.{◌≡◌, List, ℕ, ◌++◌, sym, ap, ◌∙◌}
use Rattle.std.specs.List.{concat}
use Rattle.scql_model.specs.Machine.{Chain}
use Rattle.apdu_chain.proofs.PartsJoined.{concat-cut_by}
use Rattle.apdu_chain.proofs.chain.Chain.joined.Goals as goal

pub returns : goal.returns
returns c =
    let kept : c.append.new.octets.items ≡ concat c.args.self.now.parts =
    c.append.ensures ∙ (rw (c.new-octets.ensures, c.as_slice.ensures.value) (sym (concat-cut_by c.self.inside.sizes.items c.self.inside.octets.items c.self.invariant.0) ∙ ap (λ (k : Chain). concat k.parts) c.self.view_is)) in
    c.append-2.ensures ∙ ap (λ (front : List ℕ). front ++ c.args.last.now) kept
