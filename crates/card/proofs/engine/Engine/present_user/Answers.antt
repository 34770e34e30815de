-- Whose session a channel gets.
use Rattle.std.proofs.Common.{rules, ap, subst, sym, refl}
use Rattle.scql_base.specs.Words.{not_found}
use Rattle.db_access.specs.Presenting.{session_presented}
use Rattle.record_table.specs.AtRest.{IsAtRest}
use Rattle.card.specs.Card.{Kept}
use Rattle.card.proofs.CarryingOut.{CarriesOut-unwritten}
use Rattle.card.proofs.ReadingCard.{err-ok, err-on}
use Rattle.card.proofs.Performing.{IsAtRest-at, HoldsAnswer-unknown, HoldsAnswer-presented}
use Rattle.card.proofs.Transacting.{none-of}
use Rattle.card.proofs.engine.Engine.present_user.Goals.{in-Public, in-User}
use Rattle.card.proofs.engine.Engine.present_user.Goals as goal

pub returns-in_err-present : goal.returns-in_err-present
returns-in_err-present g c =
    CarriesOut-unwritten c.requires.ready c.in_err-present.ensures.frame.same (λ m at. err-ok _ _ c.from_residual.result c.from_residual.ensures.1) (err-on _ _ c.from_residual.result c.from_residual.ensures.1) (search rules) (err-on _ _ c.from_residual.result c.from_residual.ensures.1)

pub returns-in-Unknown : goal.returns-in-Unknown
returns-in-Unknown g c = CarriesOut-unwritten c.requires.ready c.in_ok-present.ensures.frame.same (λ m at.
    let old = g.B.Eeprom.chip c.args.bench.now in
    let rest : IsAtRest c.self.inside.tables.store old m.committed = subst (λ (kept : Kept). IsAtRest kept.store old m.committed) (sym c.self.view_is) (IsAtRest-at c.args.self.now old m c.requires.ready at) in
    HoldsAnswer-unknown c.args.self.now old (g.B.Eeprom.chip c.present.new.bench) m c.args.channel.number c.args.name c.in_ok-present.field-0 at.held (none-of m.transaction c.args.self.now.transaction at.held.transaction c.requires.closed) c.in_ok-present.ensures.frame.same
    (c.in_ok-present.ensures.presented m.committed rest) not_found (ap session_presented c.in-Unknown.is)) (search rules) (search rules) refl

pub returns : goal.returns
returns g c = CarriesOut-unwritten c.requires.ready c.in_ok-present.ensures.frame.same (λ m at.
    let old = g.B.Eeprom.chip c.args.bench.now in
    let rest : IsAtRest c.self.inside.tables.store old m.committed = subst (λ (kept : Kept). IsAtRest kept.store old m.committed) (sym c.self.view_is) (IsAtRest-at c.args.self.now old m c.requires.ready at) in
    let presented = c.in_ok-present.ensures.presented m.committed rest in
    elim c.match-branch-2.branch [
      | in-Public w ↦ HoldsAnswer-presented c.args.self.now old (g.B.Eeprom.chip c.present.new.bench) m c.args.channel.number c.args.name c.in_ok-present.field-0 at.held (none-of m.transaction c.args.self.now.transaction at.held.transaction c.requires.closed) c.in_ok-present.ensures.frame.same presented
          c.set_user.new.self c.match-branch-2.user c.set_user.ensures (rw (w.in-Public.is, w.user-is) refl)
      | in-User w ↦ HoldsAnswer-presented c.args.self.now old (g.B.Eeprom.chip c.present.new.bench) m c.args.channel.number c.args.name c.in_ok-present.field-0 at.held (none-of m.transaction c.args.self.now.transaction at.held.transaction c.requires.closed) c.in_ok-present.ensures.frame.same presented
          c.set_user.new.self c.match-branch-2.user c.set_user.ensures (rw (w.in-User.is, w.user-is) refl)
    ]) (search rules) (search rules) (search rules)
