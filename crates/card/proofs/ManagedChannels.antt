-- What opening and closing a channel does to a card that holds a machine.
use Rattle.std.proofs.Common.{◌≡◌, ◌<◌, ℕ, zero, suc, Bool, true, false, not, List, [], ◌∷◌, Option, Some, None, is_some, Result, Ok, Err, refl, sym, ap, subst, ◌∙◌, arith}
use Rattle.eeprom.specs.Chip.{Chip}
use Rattle.scql_base.specs.declared.words.StatusWord.{StatusWord}
use Rattle.scql_base.specs.Words.{done, channel_not_supported, conditions_not_satisfied, function_not_supported}
use Rattle.scql_model.specs.Machine.{Machine, Session, Transaction, new_session}
use Rattle.scql_model.specs.Refusals.{◌>>=◌, or_refused, provided}
use Rattle.scql_model.specs.Replies.{said}
use Rattle.scql_model.specs.Sessions.{with_session, is_channel_open, without_pending}
use Rattle.scql_model.specs.Sessions as sessions
use Rattle.scql_model.specs.Step.{Answer, answered, done_with, channel_opened, channel_closed}
use Rattle.scql_model.specs.Transactions.{own_transaction}
use Rattle.card.specs.Answering as answering
use Rattle.card.specs.Answering.{HoldsAnswer, changing_session, replied}
use Rattle.card.specs.Card.{Kept, HoldsMachine}
use Rattle.card.specs.Sessions.{is_open, least_closed}
use Rattle.card.specs.Waiting.{has_own}
use Rattle.card.proofs.FreeCommands.{own-has, own-none}
use Rattle.card.proofs.Performing.{HoldsMachine-changing, HoldsMachine-set}

module _ (card : Kept) (chip : Chip) (m : Machine) (asking : ℕ) (at : HoldsMachine card chip m) where
  -- the card and the machine have the same open channels
  open-at : (number : ℕ) → is_channel_open m number ≡ is_open card.sessions number
  open-at number = ap (λ (sessions : List (Option Session)). is_open sessions number) at.sessions

  least-at : sessions.least_closed m ≡ least_closed card.sessions
  least-at = ap least_closed at.sessions

  -- Once the session of a channel is set, nothing is pending on the one that asks. What is done answers so
  answers : (after : Kept) (outcome : Result Answer StatusWord) (body : List ℕ) (number : ℕ) (session : Option Session) → after ≡ changing_session without_pending (answering.with_session card number session) asking
      → outcome ≡ Ok (record (done_with (with_session m number session) asking []) { reply = replied body done }) → HoldsAnswer (answered m outcome) (replied body done) after chip
  answers after outcome body number session set is =
      subst (λ (kept : Kept). HoldsAnswer (answered m outcome) (replied body done) kept chip) (sym set)
      (subst (λ (o : Result Answer StatusWord). HoldsAnswer (answered m o) (replied body done) (changing_session without_pending (answering.with_session card number session) asking) chip) (sym is)
      (record { reply = refl; held = HoldsMachine-changing without_pending (answering.with_session card number session) chip (with_session m number session) asking (HoldsMachine-set card chip m number session at) }))

  -- and a refusal so
  refuses : (outcome : Result Answer StatusWord) (word : StatusWord) → outcome ≡ Err word → HoldsAnswer (answered m outcome) (said word) card chip
  refuses outcome word is = subst (λ (o : Result Answer StatusWord). HoldsAnswer (answered m o) (said word) card chip) (sym is) (record { reply = refl; held = at })

  -- the least closed channel is opened,
  opened-least : (least : Option ℕ) → least_closed card.sessions ≡ least
      → channel_opened m asking 0 ≡ (or_refused least function_not_supported >>= λ number. Ok (record (done_with (with_session m number (Some new_session)) asking []) { reply = replied (number ∷ []) done }))
  opened-least least is =
      ap (λ (o : Option ℕ). or_refused o function_not_supported >>= λ number. Ok (record (done_with (with_session m number (Some new_session)) asking []) { reply = replied (number ∷ []) done })) (least-at ∙ is)

  pub HoldsAnswer-least : (after : Kept) (number : ℕ) → least_closed card.sessions ≡ Some number → after ≡ changing_session without_pending (answering.with_session card number (Some new_session)) asking
      → HoldsAnswer (answered m (channel_opened m asking 0)) (replied (number ∷ []) done) after chip
  HoldsAnswer-least after number least set = answers after (channel_opened m asking 0) (number ∷ []) number (Some new_session) set (opened-least (Some number) least)

  pub HoldsAnswer-no_least : least_closed card.sessions ≡ None → HoldsAnswer (answered m (channel_opened m asking 0)) (said function_not_supported) card chip
  HoldsAnswer-no_least none = refuses (channel_opened m asking 0) function_not_supported (opened-least None none)

  -- or the one that is named,
  opened-named : (number : ℕ) (open' : Bool) → 0 < number → is_open card.sessions number ≡ open'
      → channel_opened m asking number ≡ (provided (not open') conditions_not_satisfied >>= λ _. Ok (done_with (with_session m number (Some new_session)) asking []))
  opened-named zero open' named is = absurd (omega (arith, named))
  opened-named (suc n) open' named is =
      ap (λ (b : Bool). provided (not b) conditions_not_satisfied >>= λ _. Ok (done_with (with_session m (suc n) (Some new_session)) asking [])) (open-at (suc n) ∙ is)

  pub HoldsAnswer-named : (after : Kept) (number : ℕ) → 0 < number → is_open card.sessions number ≡ false → after ≡ changing_session without_pending (answering.with_session card number (Some new_session)) asking
      → HoldsAnswer (answered m (channel_opened m asking number)) (said done) after chip
  HoldsAnswer-named after number named closed set = answers after (channel_opened m asking number) [] number (Some new_session) set (opened-named number false named closed)

  pub HoldsAnswer-open_already : (number : ℕ) → 0 < number → is_open card.sessions number ≡ true → HoldsAnswer (answered m (channel_opened m asking number)) (said conditions_not_satisfied) card chip
  HoldsAnswer-open_already number named is = refuses (channel_opened m asking number) conditions_not_satisfied (opened-named number true named is)

  -- and one is closed, unless it has the open transaction.
  closed-named : (number : ℕ) (open' : Bool) (own : Option Transaction) → is_open card.sessions number ≡ open' → own_transaction m.transaction number ≡ own
      → channel_closed m asking number ≡ (provided open' channel_not_supported >>= λ _. provided (not (is_some own)) conditions_not_satisfied >>= λ _. Ok (done_with (with_session m number None) asking []))
  closed-named number open' own is has =
      ap (λ (b : Bool). provided b channel_not_supported >>= λ _. provided (not (is_some (own_transaction m.transaction number))) conditions_not_satisfied >>= λ _. Ok (done_with (with_session m number None) asking [])) (open-at number ∙ is)
      ∙ ap (λ (t : Option Transaction). provided open' channel_not_supported >>= λ _. provided (not (is_some t)) conditions_not_satisfied >>= λ _. Ok (done_with (with_session m number None) asking [])) has

  pub HoldsAnswer-closed : (after : Kept) (number : ℕ) → is_open card.sessions number ≡ true → has_own card.transaction number ≡ false
      → after ≡ changing_session without_pending (answering.with_session card number None) asking → HoldsAnswer (answered m (channel_closed m asking number)) (said done) after chip
  HoldsAnswer-closed after number open' other set =
      answers after (channel_closed m asking number) [] number None set (closed-named number true None open' (own-none m.transaction card.transaction number at.transaction other))

  pub HoldsAnswer-closed_within : (number : ℕ) → is_open card.sessions number ≡ true → has_own card.transaction number ≡ true
      → HoldsAnswer (answered m (channel_closed m asking number)) (said conditions_not_satisfied) card chip
  HoldsAnswer-closed_within number open' own =
      let has = own-has m.transaction card.transaction number at.transaction own in
      refuses (channel_closed m asking number) conditions_not_satisfied (closed-named number true (Some has.0) open' has.2)

  pub HoldsAnswer-closed_already : (number : ℕ) → is_open card.sessions number ≡ false → HoldsAnswer (answered m (channel_closed m asking number)) (said channel_not_supported) card chip
  HoldsAnswer-closed_already number closed = refuses (channel_closed m asking number) channel_not_supported (closed-named number false (own_transaction m.transaction number) closed refl)
