-- The one object of the cursor's stamp, if it appears and may be written, or the first refusal.
use Rattle.std.proofs.Common.{Option, sym, subst, ◌∙◌}
use Rattle.privilege_table.specs.Rights.{privilege_bit}
use Rattle.record_table.proofs.Asking.{Holds-then}
use Rattle.db_read.specs.Scan.{Found, IsRight}
use Rattle.db_write.proofs.WrittenThrough.{writes, writes-foreign, writes-hidden, writes-none, writes-other}
use Rattle.db_write.proofs.reaching.find_written.Goals as goal

pub returns-in_default-clause-written : goal.returns-in_default-clause-written
returns-in_default-clause-written g c = λ db held.
    let there = c.in_ok-find_object.ensures.asks.answers db held c.args.actor (c.requires.right db held) in
    rw c.refused.ensures (writes-none db c.args.actor (privilege_bit c.args.privilege) c.args.cursor.now held.valid (sym c.in_default.is ∙ there))

pub returns-then-not-see-clause-written : goal.returns-then-not-see-clause-written
returns-then-not-see-clause-written g c = λ db held.
    let o = c.in-Some.object in
    let bit = privilege_bit c.args.privilege in
    let cursor = c.args.cursor.now in
    let there = c.in_ok-find_object.ensures.asks.answers db held c.args.actor (c.requires.right db held) in
    let second = Holds-then c.in_ok-find_object.ensures.asks held in
    let hidden = (c.in_ok-rights.ensures.rights db second).appears ∙ (sym c.see.ensures ∙ c.if-not-see.true) in
    rw c.refused-then-not-see.ensures (writes-hidden db c.args.actor bit cursor o held.valid (sym c.in-Some.is ∙ there) hidden)

pub returns-then-not-is_table_or_view-clause-written : goal.returns-then-not-is_table_or_view-clause-written
returns-then-not-is_table_or_view-clause-written g c = λ db held.
    let o = c.in-Some.object in
    let bit = privilege_bit c.args.privilege in
    let cursor = c.args.cursor.now in
    let there = c.in_ok-find_object.ensures.asks.answers db held c.args.actor (c.requires.right db held) in
    let second = Holds-then c.in_ok-find_object.ensures.asks held in
    let seen = (c.in_ok-rights.ensures.rights db second).appears ∙ (sym c.see.ensures ∙ c.if-not-see.false) in
    let other = sym c.is_table_or_view.ensures ∙ c.if-not-is_table_or_view.true in
    rw c.refused-then-not-is_table_or_view.ensures (writes-other db c.args.actor bit cursor o held.valid (sym c.in-Some.is ∙ there) seen other)

pub returns-then-not-have-clause-written : goal.returns-then-not-have-clause-written
returns-then-not-have-clause-written g c = λ db held.
    let o = c.in-Some.object in
    let bit = privilege_bit c.args.privilege in
    let cursor = c.args.cursor.now in
    let there = c.in_ok-find_object.ensures.asks.answers db held c.args.actor (c.requires.right db held) in
    let second = Holds-then c.in_ok-find_object.ensures.asks held in
    let rights = c.in_ok-rights.ensures.rights db second in
    let seen = (c.in_ok-rights.ensures.rights db second).appears ∙ (sym c.see.ensures ∙ c.if-not-see.false) in
    let kind = sym c.is_table_or_view.ensures ∙ c.if-not-is_table_or_view.false in
    let foreign = rights.holds c.args.privilege ∙ (sym c.have.ensures ∙ c.if-not-have.true) in
    rw c.refused-then-not-have.ensures (writes-foreign db c.args.actor bit cursor o held.valid (sym c.in-Some.is ∙ there) seen kind foreign)

pub returns-clause-written : goal.returns-clause-written
returns-clause-written g c = λ db held.
    let o = c.in-Some.object in
    let there = c.in_ok-find_object.ensures.asks.answers db held c.args.actor (c.requires.right db held) in
    let second = Holds-then c.in_ok-find_object.ensures.asks held in
    let rights = c.in_ok-rights.ensures.rights db second in
    let seen = rights.appears ∙ (sym c.see.ensures ∙ c.if-not-see.false) in
    let kind = sym c.is_table_or_view.ensures ∙ c.if-not-is_table_or_view.false in
    record {
      chosen = record {
        has = record { object = o; is = c.in-Some.is; at = sym there ∙ c.in-Some.is; kind = kind };
        actor = c.args.actor;
        right = subst (λ (scan : Option Found). IsRight db c.args.actor scan c.args.cursor.now) (sym c.find_object.ensures.same) (c.requires.right db held);
      };
      written = writes db c.args.actor (privilege_bit c.args.privilege) c.args.cursor.now o held.valid (sym c.in-Some.is ∙ there) seen kind (rights.holds c.args.privilege ∙ (sym c.have.ensures ∙ c.if-not-have.false));
    }
