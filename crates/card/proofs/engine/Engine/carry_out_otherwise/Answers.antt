-- A command waits, reads, has an arm of its own, or changes the database.
use Rattle.std.proofs.Common.{◌≡◌, Bool, true, false, ℕ, List, [], ◌∷◌, Result, Ok, Err, refl, sym, ap, subst, ◌∙◌, arith}
use Rattle.std.specs.Prelude.{OnOk}
use Rattle.eeprom.specs.Chip.{Chip}
use Rattle.eeprom.specs.declared.EepromFault.{EepromFault}
use Rattle.scql_base.specs.declared.words.StatusWord.{StatusWord}
use Rattle.scql_base.specs.declared.operation.Command.{Command}
use Rattle.scql_base.specs.declared.operation.Operation.{Operation}
use Rattle.scql_base.specs.declared.operation.Operation.TheVariants.{Begin, Commit, Rollback, PresentUser, DeleteUser, Verify, OpenChannel, CloseChannel}
use Rattle.scql_model.specs.Bound.{octets_carried_out, octets_verified, or_nothing}
use Rattle.scql_model.proofs.FewCommits.{one-answered}
use Rattle.scql_model.specs.Machine.{Machine}
use Rattle.scql_model.specs.Operations.{kind_of}
use Rattle.scql_model.specs.Step.{Answer, answered, carried_out, channel_closed, user_and_sessions_deleted, user_presented, verified}
use Rattle.scql_model.specs.Transactions.{Waits, for_others, is_kept_waiting, waits}
use Rattle.card.specs.Answering.{LeavesFirstOfTwo}
use Rattle.card.specs.Card.{Kept, HoldsMachine, IsAt}
use Rattle.card.specs.Waiting.{keeps_waiting}
use Rattle.card.proofs.CarryingOut.{CarriesOut-as, CarriesOut-at_once, CarriesOut-unwritten, CarriesOut-within}
use Rattle.card.proofs.OtherCommands.{changes-others, IsNoneOfThose}
use Rattle.apdu_chain.proofs.CarriedOut.{carried_out-arm, carried_out-waits, octets-arm}
use Rattle.card.proofs.FreeCommands.{any-none, carried_out-changes, octets-carried_out, waiting-at, waits-changes}
use Rattle.card.proofs.engine.Engine.carry_out_otherwise.Goals.{In_default}
use Rattle.card.proofs.engine.Engine.carry_out_otherwise.Goals as goal

-- what the card says of waiting is so of the machine
told-waiting : (card : Kept) (chip : Chip) (m : Machine) (c : Command) (told answer : Bool) → HoldsMachine card chip m → told ≡ keeps_waiting (waits (kind_of c.operation)) card.transaction c.channel → told ≡ answer
    → is_kept_waiting (waits (kind_of c.operation)) m.transaction c.channel ≡ answer
told-waiting card chip m c told answer at says is = waiting-at (waits (kind_of c.operation)) m.transaction card.transaction c.channel at.transaction ∙ (sym says ∙ is)

-- one that isn't kept waiting is free
free : {chip : Chip} {m : Machine} {card : Kept} {told : Bool} (c : Command) → IsAt card chip m → told ≡ keeps_waiting (waits (kind_of c.operation)) card.transaction c.channel → told ≡ false
    → is_kept_waiting (waits (kind_of c.operation)) m.transaction c.channel ≡ false
free {chip = chip} {m = m} {card = card} {told = told} c at says is = told-waiting card chip m c told false at.held says is

pub returns-then-keeps_waiting-clause-carries : goal.returns-then-keeps_waiting-clause-carries
returns-then-keeps_waiting-clause-carries g c =
    let chip = g.B.Eeprom.chip c.args.bench.now in
    CarriesOut-as (λ m at. (ap (answered m) (carried_out-waits m c.args.command.now (told-waiting c.args.self.now chip m c.args.command.now c.keeps_waiting.result true at.held c.keeps_waiting.ensures c.if-keeps_waiting.true)), refl)) c.without_body.ensures
    (CarriesOut-unwritten c.requires.asked.ready.stands refl (λ m at. record { reply = refl; held = at.held }) c.requires.asked.ready.stands (omega arith, refl) refl)

pub returns-in-Begin-clause-carries : goal.returns-in-Begin-clause-carries
returns-in-Begin-clause-carries g c =
    CarriesOut-as (λ m at. (ap (answered m) (carried_out-arm m c.args.command.now Begin c.in-Begin.is (free c.args.command.now at c.keeps_waiting.ensures c.if-keeps_waiting.false) refl), refl)) c.without_body.ensures
    (CarriesOut-at_once c.requires.asked.ready.stands c.begin.ensures)

pub returns-in-Commit-clause-carries : goal.returns-in-Commit-clause-carries
returns-in-Commit-clause-carries g c =
    CarriesOut-as (λ m at. (let goes = free c.args.command.now at c.keeps_waiting.ensures c.if-keeps_waiting.false in
    (ap (answered m) (carried_out-arm m c.args.command.now Commit c.in-Commit.is goes refl), ap or_nothing (octets-arm m c.args.command.now Commit c.in-Commit.is goes)))) c.without_body.ensures c.commit.ensures

pub returns-in-Rollback-clause-carries : goal.returns-in-Rollback-clause-carries
returns-in-Rollback-clause-carries g c =
    CarriesOut-as (λ m at. (ap (answered m) (carried_out-arm m c.args.command.now Rollback c.in-Rollback.is (free c.args.command.now at c.keeps_waiting.ensures c.if-keeps_waiting.false) refl), refl)) c.without_body.ensures
    (CarriesOut-at_once c.requires.asked.ready.stands c.roll_back.ensures)

pub present_user-requires : goal.present_user-requires
present_user-requires g c = record {
  ready = c.requires.asked.ready.stands;
  closed =
      any-none c.args.self.now.transaction c.args.command.now.channel
      (subst (λ (operation : Operation). keeps_waiting (waits (kind_of operation)) c.args.self.now.transaction c.args.command.now.channel ≡ false) c.in-PresentUser.is (sym c.keeps_waiting.ensures ∙ c.if-keeps_waiting.false));
}

pub returns-in-PresentUser-clause-carries : goal.returns-in-PresentUser-clause-carries
returns-in-PresentUser-clause-carries g c =
    CarriesOut-as (λ m at. (let goes = free c.args.command.now at c.keeps_waiting.ensures c.if-keeps_waiting.false in
    let presents : carried_out m c.args.command.now ≡ user_presented m c.args.command.now.channel c.copy.result = rw c.copy.ensures (carried_out-arm m c.args.command.now (PresentUser c.in-PresentUser.name) c.in-PresentUser.is goes refl) in
    (ap (answered m) presents, refl))) c.without_body.ensures
    (CarriesOut-within c.present_user.ensures)

pub returns-in-OpenChannel-clause-carries : goal.returns-in-OpenChannel-clause-carries
returns-in-OpenChannel-clause-carries g c =
    CarriesOut-as (λ m at. (ap (answered m) (carried_out-arm m c.args.command.now (OpenChannel c.in-OpenChannel.number) c.in-OpenChannel.is (free c.args.command.now at c.keeps_waiting.ensures c.if-keeps_waiting.false) refl), refl)) refl
    (CarriesOut-at_once c.requires.asked.ready.stands c.open_channel.ensures)

pub returns-in-CloseChannel-clause-carries : goal.returns-in-CloseChannel-clause-carries
returns-in-CloseChannel-clause-carries g c =
    CarriesOut-as (λ m at. (
      ap (answered m) (carried_out-arm m c.args.command.now (CloseChannel c.in-CloseChannel.number) c.in-CloseChannel.is (free c.args.command.now at c.keeps_waiting.ensures c.if-keeps_waiting.false) refl
          ∙ ap (channel_closed m c.args.command.now.channel) (sym c.channel_meant-number.ensures)),
      refl,
    )) c.without_body.ensures
    (CarriesOut-at_once c.requires.asked.ready.stands c.close_channel.ensures)

-- what is left changes the database
none : (g : _) (c : In_default g) → IsNoneOfThose c.args.command.now.operation
none g c = record {
  not_reading = c.requires.other;
  not_presents = c.in_default.not-PresentUser;
  not_deletes = c.in_default.not-DeleteUser;
  not_verifies = c.in_default.not-Verify;
  not_opens = c.in_default.not-OpenChannel;
  not_closes = c.in_default.not-CloseChannel;
  not_begins = c.in_default.not-Begin;
  not_commits = c.in_default.not-Commit;
  not_rolls_back = c.in_default.not-Rollback;
}

-- and it isn't kept waiting
others-wait : (g : _) (c : In_default g) → keeps_waiting for_others c.args.self.now.transaction c.args.command.now.channel ≡ false
others-wait g c = subst (λ (w : Waits). keeps_waiting w c.args.self.now.transaction c.args.command.now.channel ≡ false)
    (waits-changes c.args.command.now.operation (changes-others c.args.command.now.operation (none g c)) c.in_default.not-DeleteUser) (sym c.keeps_waiting.ensures ∙ c.if-keeps_waiting.false)

pub change-requires : goal.change-requires
change-requires g c = record {
  mine = others-wait g (goal.at.change-requires g c).In_default;
  asked = c.requires.asked;
}

pub returns-in_default-clause-carries : goal.returns-in_default-clause-carries
returns-in_default-clause-carries g c =
    let channel = c.args.command.now.channel in
    let operation = c.args.command.now.operation in
    let le = c.args.command.now.le in
    let changes = changes-others operation (none g (goal.at.returns-in_default-clause-carries g c).In_default) in
    CarriesOut-as (λ m at. (let goes = free c.args.command.now at c.keeps_waiting.ensures c.if-keeps_waiting.false in
    (ap (answered m) (carried_out-changes m channel operation le changes c.in_default.not-DeleteUser goes), ap or_nothing (octets-carried_out m channel operation le changes goes)))) c.without_body.ensures c.change.ensures.carries

-- VERIFY and DELETE USER wait for any transaction, so none is open.
pub verify-requires : goal.verify-requires
verify-requires g c = record {
  ready = c.requires.asked.ready.stands;
  closed =
      any-none c.args.self.now.transaction c.args.command.now.channel
      (subst (λ (operation : Operation). keeps_waiting (waits (kind_of operation)) c.args.self.now.transaction c.args.command.now.channel ≡ false) c.in-Verify.is (sym c.keeps_waiting.ensures ∙ c.if-keeps_waiting.false));
}

pub returns-in-Verify-clause-carries : goal.returns-in-Verify-clause-carries
returns-in-Verify-clause-carries g c =
    CarriesOut-as (λ m at. (let goes = free c.args.command.now at c.keeps_waiting.ensures c.if-keeps_waiting.false in
    let carried : carried_out m c.args.command.now ≡ verified m c.args.command.now.channel c.as_slice.result.now = rw c.as_slice.ensures.octets (carried_out-arm m c.args.command.now (Verify _) c.in-Verify.is goes refl) in
    let most : octets_carried_out m c.args.command.now ≡ octets_verified m c.args.command.now.channel c.as_slice.result.now = rw c.as_slice.ensures.octets (octets-arm m c.args.command.now (Verify _) c.in-Verify.is goes) in
    (ap (answered m) carried, ap or_nothing most)))
    c.without_body.ensures c.verify.ensures.carries

pub delete_user-requires-clause-closed : goal.delete_user-requires-clause-closed
delete_user-requires-clause-closed g c =
    any-none c.args.self.now.transaction c.args.command.now.channel
    (subst (λ (operation : Operation). keeps_waiting (waits (kind_of operation)) c.args.self.now.transaction c.args.command.now.channel ≡ false) c.in-DeleteUser.is (sym c.keeps_waiting.ensures ∙ c.if-keeps_waiting.false))

pub returns-in-DeleteUser-clause-carries : goal.returns-in-DeleteUser-clause-carries
returns-in-DeleteUser-clause-carries g c =
    let command = c.args.command.now in
    CarriesOut-as (λ m at. (let goes = free command at c.keeps_waiting.ensures c.if-keeps_waiting.false in
    let deletes : carried_out m command ≡ user_and_sessions_deleted m command.channel c.copy-in-DeleteUser.result = rw c.copy-in-DeleteUser.ensures (carried_out-arm m command (DeleteUser c.in-DeleteUser.name) c.in-DeleteUser.is goes refl) in
    (ap (answered m) deletes, ap or_nothing (octets-carried_out m command.channel command.operation command.le (rw c.in-DeleteUser.is refl) goes)))) c.without_body.ensures c.delete_user.ensures

-- VERIFY alone commits a second database.
not_twice : (m : Machine) (c : Command) (result : Result StatusWord EepromFault) (old new : Chip) → ((secret : List ℕ) → c.operation ≡ Verify secret → ⊥) → OnOk result (LeavesFirstOfTwo (answered m (carried_out m c)) old new)
not_twice m c (Ok word) old new other = λ first second rest twice. absurd (one-answered m c first second rest other twice)
not_twice m c (Err fault) old new other = tt

pub returns-in-PresentUser-clause-lowered : goal.returns-in-PresentUser-clause-lowered
returns-in-PresentUser-clause-lowered g c = λ m at. not_twice m c.args.command.now c.present_user.result _ _ (λ secret is. let other = sym c.in-PresentUser.is ∙ is in absurd cc)

pub returns-in-OpenChannel-clause-lowered : goal.returns-in-OpenChannel-clause-lowered
returns-in-OpenChannel-clause-lowered g c = λ m at. not_twice m c.args.command.now (Ok c.open_channel.result) _ _ (λ secret is. let other = sym c.in-OpenChannel.is ∙ is in absurd cc)

pub returns-in-CloseChannel-clause-lowered : goal.returns-in-CloseChannel-clause-lowered
returns-in-CloseChannel-clause-lowered g c = λ m at. not_twice m c.args.command.now (Ok c.close_channel.result) _ _ (λ secret is. let other = sym c.in-CloseChannel.is ∙ is in absurd cc)

pub returns-in-DeleteUser-clause-lowered : goal.returns-in-DeleteUser-clause-lowered
returns-in-DeleteUser-clause-lowered g c = λ m at. not_twice m c.args.command.now c.delete_user.result _ _ (λ secret is. let other = sym c.in-DeleteUser.is ∙ is in absurd cc)

pub returns-in_default-clause-lowered : goal.returns-in_default-clause-lowered
returns-in_default-clause-lowered g c = λ m at. not_twice m c.args.command.now c.change.result _ _ c.in_default.not-Verify

pub returns-in-Verify-clause-lowered : goal.returns-in-Verify-clause-lowered
returns-in-Verify-clause-lowered g c = λ m at.
    let channel = c.args.command.now.channel in
    let free = told-waiting c.args.self.now (g.B.Eeprom.chip c.args.bench.now) m c.args.command.now c.keeps_waiting.result false at.held c.keeps_waiting.ensures c.if-keeps_waiting.false in
    let carried : carried_out m c.args.command.now ≡ verified m channel c.as_slice.result.now = rw c.as_slice.ensures.octets
    (carried_out-arm m c.args.command.now (Verify _) c.in-Verify.is free refl) in
    subst (λ (outcome : Result Answer StatusWord). OnOk c.verify.result (LeavesFirstOfTwo (answered m outcome) (g.B.Eeprom.chip c.args.bench.now) (g.B.Eeprom.chip c.verify.new.bench))) (sym carried) (c.verify.ensures.lowered m at)

pub returns-in-Begin-clause-lowered : goal.returns-in-Begin-clause-lowered
returns-in-Begin-clause-lowered g c = λ m at. not_twice m c.args.command.now (Ok c.begin.result) _ _ (λ secret is. let other = sym c.in-Begin.is ∙ is in absurd cc)

pub returns-in-Commit-clause-lowered : goal.returns-in-Commit-clause-lowered
returns-in-Commit-clause-lowered g c = λ m at. not_twice m c.args.command.now c.commit.result _ _ (λ secret is. let other = sym c.in-Commit.is ∙ is in absurd cc)

pub returns-in-Rollback-clause-lowered : goal.returns-in-Rollback-clause-lowered
returns-in-Rollback-clause-lowered g c = λ m at. not_twice m c.args.command.now (Ok c.roll_back.result) _ _ (λ secret is. let other = sym c.in-Rollback.is ∙ is in absurd cc)

-- a command that waits commits nothing
pub returns-then-keeps_waiting-clause-lowered : goal.returns-then-keeps_waiting-clause-lowered
returns-then-keeps_waiting-clause-lowered g c = λ m at first second rest twice.
    let waited = told-waiting c.args.self.now (g.B.Eeprom.chip c.args.bench.now) m c.args.command.now c.keeps_waiting.result true at.held c.keeps_waiting.ensures c.if-keeps_waiting.true in
    let none : [] ≡ first ∷ second ∷ rest = sym (ap (λ (outcome : Result Answer StatusWord). (answered m outcome).commits) (carried_out-waits m c.args.command.now waited)) ∙ twice in
    absurd cc
