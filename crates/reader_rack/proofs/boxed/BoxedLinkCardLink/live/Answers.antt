use Rattle.std.proofs.Common.{◌∙◌, ap}
use Rattle.reader_rack.proofs.boxed.BoxedLinkCardLink.live.Goals as goal

pub returns : goal.returns
returns g c = c.live.ensures ∙ ap (λ (p : (x : g.dyn-1.0.I) × (g.dyn-1.0.entry x).0.Denot). (g.dyn-1.0.entry p.0).1.is_live p.1) c.deref_box-1.ensures.1
