use Rattle.std.proofs.Common.{◌≡◌, ◌+◌, true, false, not, sym, ◌∙◌, ap, arith}
use Rattle.script.proofs.Closing.{opens, plain, doubled, ended, over, first}
use Rattle.script.proofs.token.closed.Goals as goal
use Rattle.script.proofs.token.closed.Goals.{then-octet-eq39+then-behind, then-octet-eq39+else-behind, else-octet-eq39+else-behind-2}

pub returns-then-behind-2 : goal.returns-then-behind-2
returns-then-behind-2 c =
    sym (ended c.loop-i.behind c.loop-i.i c.loop-i.len c.args.rest.now (omega arith) c.if-behind-2.true (c.loop-i.invariant.behind c.if-behind-2.true) c.if-octet-eq39.false)
    ∙ (c.loop-i.invariant.ends ∙ first c.args.rest.now)

pub loop-i-preserved : goal.loop-i-preserved
loop-i-preserved c =
    elim c.if-octet-eq39.branch [
      | then-octet-eq39+then-behind w ↦
          let now : c.if-octet-eq39.behind ≡ true = w.behind-is ∙ ap not w.if-behind.true in
          record {
            ends = rw (now, w.len-is) (sym (opens c.loop-i.behind c.loop-i.i c.loop-i.len c.args.rest.now (omega arith) w.if-behind.true w.if-octet-eq39.true) ∙ c.loop-i.invariant.ends);
            behind = λ _. omega (arith, w.len-is);
          }
      | then-octet-eq39+else-behind w ↦
          let now : c.if-octet-eq39.behind ≡ false = w.behind-is ∙ ap not w.if-behind.false in
          let last : c.loop-i.len ≡ c.loop-i.i + 1 = c.loop-i.invariant.behind w.if-behind.false in
          record {
            ends = rw (now, w.len-is) (sym (doubled c.loop-i.behind c.loop-i.i c.loop-i.len c.args.rest.now (omega arith) w.if-behind.false last w.if-octet-eq39.true) ∙ c.loop-i.invariant.ends);
            behind = λ other. absurd (cc);
          }
      | else-octet-eq39+else-behind-2 w ↦
          let now : c.if-octet-eq39.behind ≡ false = w.behind-is ∙ w.if-behind-2.false in
          record {
            ends = rw (w.behind-is, w.len-is) (sym (plain c.loop-i.behind c.loop-i.i c.loop-i.len c.args.rest.now (omega arith) w.if-behind-2.false w.if-octet-eq39.false) ∙ c.loop-i.invariant.ends);
            behind = λ other. absurd (cc);
          }
    ]

pub returns : goal.returns
returns c =
    sym (over c.loop-i.behind c.loop-i.i c.loop-i.len c.args.rest.now (omega arith) c.loop-i.invariant.behind)
    ∙ (c.loop-i.invariant.ends ∙ first c.args.rest.now)
