use Rattle.std.proofs.Common.{◌==◌, ◌++◌, ◌∷◌, ◌+◌, [], false, drop, get_or, length-append, refl, sym, ◌∙◌, ap, arith}
use Rattle.std.proofs.lemmas.Bool.{ne_eqb, eq-eqb}
use Rattle.scql_base.specs.Octets.{within}
use Rattle.script.specs.Meanings.{undoubled}
use Rattle.script.proofs.Undoubling.{kept, opened, alone, told-full, over, over-open, opens-state, alone-state, kept-state}
use Rattle.script.proofs.literal.text_of.Goals as goal

pub returns-then-not-quote : goal.returns-then-not-quote
returns-then-not-quote c =
    let plain = ne_eqb (get_or c.args.inner.now c.loop-octet.octet-index 0) 39 c.if-not-quote.true in
    sym (alone c.loop-octet.text.items c.loop-octet.behind c.loop-octet.octet-index c.args.inner.now (omega arith)
    (alone-state c.loop-octet.behind (get_or c.args.inner.now c.loop-octet.octet-index 0 == 39) c.if-behind-quote.true plain) plain)
    ∙ c.loop-octet.invariant

pub loop-octet-preserved-then-behind-quote : goal.loop-octet-preserved-then-behind-quote
loop-octet-preserved-then-behind-quote c =
    sym (opened c.loop-octet.text.items c.loop-octet.behind c.loop-octet.octet-index c.args.inner.now (omega arith)
    (opens-state c.loop-octet.behind (get_or c.args.inner.now c.loop-octet.octet-index 0 == 39) c.if-behind-quote.true
    (eq-eqb (get_or c.args.inner.now c.loop-octet.octet-index 0) 39 c.if-not-quote.false)) c.if-not-quote.false)
    ∙ c.loop-octet.invariant

pub returns-then-len-eq200 : goal.returns-then-len-eq200
returns-then-len-eq200 c =
    let octet = get_or c.args.inner.now c.loop-octet.octet-index 0 in
    sym (kept c.loop-octet.text.items c.loop-octet.behind (octet == 39) c.loop-octet.octet-index c.args.inner.now (omega arith)
    (kept-state c.loop-octet.behind (octet == 39) c.if-behind-quote.false) refl
    ∙ told-full (c.loop-octet.text.items ++ octet ∷ []) (undoubled false (drop (c.loop-octet.octet-index + 1) c.args.inner.now))
    (omega (arith, length-append c.loop-octet.text.items (octet ∷ []), c.len-len.ensures.value, c.if-len-eq200.true)))
    ∙ c.loop-octet.invariant

pub loop-octet-preserved : goal.loop-octet-preserved
loop-octet-preserved c =
    let octet = get_or c.args.inner.now c.loop-octet.octet-index 0 in
    rw c.push.ensures.items (sym (kept c.loop-octet.text.items c.loop-octet.behind (octet == 39) c.loop-octet.octet-index c.args.inner.now (omega arith)
    (kept-state c.loop-octet.behind (octet == 39) c.if-behind-quote.false) refl)
    ∙ c.loop-octet.invariant)

pub returns-then-behind : goal.returns-then-behind
returns-then-behind c = sym (over-open c.loop-octet.text.items c.loop-octet.octet-index c.args.inner.now (omega arith)) ∙ rw c.if-behind.true at c.loop-octet.invariant

pub returns : goal.returns
returns c =
    c.of.ensures.value ∙ (ap (within 200) c.as_slice.ensures.value
    ∙ (sym (over c.loop-octet.text.items c.loop-octet.octet-index c.args.inner.now (omega arith)) ∙ rw c.if-behind.false at c.loop-octet.invariant))
