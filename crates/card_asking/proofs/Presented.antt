-- A user is presented: nothing is committed, and the open transaction stays.
use Rattle.std.proofs.Common.{◌≡◌, ℕ, ◌≤◌, ◌+◌, arith, true, List, [], ◌∷◌, length, Option, Some, None, is_some, Result, Ok, Err, refl, sym, ◌∙◌, ap, subst, lit≤}
use Rattle.std.proofs.lemmas.Bool.{false≢true, le-leb}
use Rattle.std.proofs.lemmas.List.Sums.{sum_by-cons}
use Rattle.eeprom.specs.Chip.{Chip}
use Rattle.scql_base.specs.declared.operation.Command.{Command}
use Rattle.scql_base.specs.declared.operation.Operation.TheVariants.{PresentUser}
use Rattle.scql_base.specs.declared.words.StatusWord.{StatusWord}
use Rattle.scql_base.specs.Name.{IsName}
use Rattle.scql_base.specs.Row.{row_size}
use Rattle.scql_base.proofs.RowOctets.{row_size-spelled}
use Rattle.scql_model.specs.Lives.{after_all}
use Rattle.scql_model.specs.Machine.{Machine, Session, session_of, base}
use Rattle.scql_model.specs.ReadingCommands.{row_octets}
use Rattle.scql_model.specs.Refusals.{◌>>=◌}
use Rattle.scql_model.specs.Replies.{Reply}
use Rattle.scql_model.specs.Sessions.{changing_session, is_channel_open, with_session, without_chain}
use Rattle.scql_model.specs.Spelling.{fits}
use Rattle.scql_model.specs.Step.{Answer, answered, done_with, session_named, user_presented}
use Rattle.script.specs.Commands.{asking, IsSendable}
use Rattle.script.proofs.Sendable.{asked-sent}
use Rattle.card_link.specs.Link.{Answered, Holds, IsOneOf, HasValidData, LeavesOpen}
use Rattle.planner.specs.Meaning.{answer_to}
use Rattle.planner.proofs.Asking.{answer-whole}
use Rattle.planner.proofs.StatementsLawful.{last-answer}
use Rattle.planner.proofs.TransactionKnown.{answer-kept}
use Rattle.card_asking.specs.Giving.{IsLike}
use Rattle.card_asking.proofs.Moments.{leaves-all, one-alone}
use Rattle.card_asking.specs.Presenting.{IsBehind, presented}

-- it can be sent
pub user-sent : (user : List ℕ) → IsName user → length user ≤ 8 → IsSendable (asking 0 (PresentUser user))
user-sent user named short = asked-sent 0 (PresentUser user) (lit≤ tt) refl refl named fitting
  where
    more : row_size (user ∷ []) ≡ (length user + 1) + row_size []
    more = sum_by-cons (λ (v : List ℕ). length v + 1) user []

    fitting : fits (asking 0 (PresentUser user)) ≡ true
    fitting = le-leb (length (row_octets (user ∷ []))) 255 (omega (arith, row_size-spelled (user ∷ []), more, short))

-- whatever it does, nothing is committed
session-commits : (n : Machine) (r : Result Session StatusWord) → (answered n (r >>= λ (session : Session). Ok (done_with (with_session n 0 (Some session)) 0 []))).commits ≡ []
session-commits n (Ok session) = refl
session-commits n (Err word) = refl

waiting-commits : (n : Machine) (user : List ℕ) (r : Result (Unit {0}) StatusWord) → (answered n (r >>= λ (_ : Unit {0}). user_presented n 0 user)).commits ≡ []
waiting-commits n user (Ok x) = session-commits n (session_named (base n 0) user)
waiting-commits n user (Err word) = refl

session-there : (m : Machine) → is_channel_open m 0 ≡ true → (s : Session) × (session_of m 0 ≡ Some s)
session-there m open' = go (session_of m 0) refl open'
  where
    go : (found : Option Session) → session_of m 0 ≡ found → is_some found ≡ true → (s : Session) × (session_of m 0 ≡ Some s)
    go (Some s) is there = (s, is)
    go None is there = absurd (false≢true there)

presented-commits : (m : Machine) (user : List ℕ) → IsSendable (asking 0 (PresentUser user)) → is_channel_open m 0 ≡ true → (presented m user).commits ≡ []
presented-commits m user can open' =
    let s = session-there m open' in
    ap (λ (answer : Answer). answer.commits) (answer-whole m (asking 0 (PresentUser user)) s.0 can refl tt s.1)
    ∙ waiting-commits (changing_session without_chain m 0) user _

presented-like : (m : Machine) (user : List ℕ) → IsSendable (asking 0 (PresentUser user)) → is_channel_open m 0 ≡ true → IsLike m (presented m user).machine
presented-like m user can open' = record {
  committed = sym (last-answer m (asking 0 (PresentUser user))) ∙ ap (after_all m.committed) (presented-commits m user can open');
  transaction = answer-kept m (asking 0 (PresentUser user)) can refl;
}

-- what was heard of it
pub record Heard {L : Type 0} (is_at : L → Machine → Type 0) (m : Machine) (user : List ℕ) (word : StatusWord) (now : L) : Type 0 where
  pub said : word ≡ (presented m user).reply.word
  pub behind : IsBehind is_at m (presented m user) now

pub presented-heard : {L : Type 0} (is_at : L → Machine → Type 0) (m : Machine) (user : List ℕ) (command : Command) (heard : Reply) (word : StatusWord) (now : L) → command ≡ asking 0 (PresentUser user) → IsSendable command → HasValidData m
    → word ≡ heard.word → Answered is_at (answer_to m command) heard now → Heard is_at m user word now
presented-heard is_at m user command heard word now is can over same answer =
    let here : Answered is_at (presented m user) heard now = subst (λ (c : Command). Answered is_at (answer_to m c) heard now) is answer in
    record {
      said = same ∙ ap (λ (reply : Reply). reply.word) here.reply;
      behind = record { at = here.at; like = presented-like m user (subst IsSendable is can) over.basic };
    }

-- at each moment of it the database is the one before
pub presented-moments : {L : Type 0} (chip : L → Chip) (mark : ℕ) (m : Machine) (user : List ℕ) (command : Command) (old new : L) → command ≡ asking 0 (PresentUser user) → IsSendable command → HasValidData m
    → LeavesOpen (IsOneOf mark (m.committed ∷ (answer_to m command).commits)) (chip old) (chip new) → LeavesOpen (Holds mark m.committed) (chip old) (chip new)
presented-moments chip mark m user command old new is can over leaves =
    leaves-all chip (IsOneOf mark (m.committed ∷ (answer_to m command).commits)) (Holds mark m.committed) old new
    (λ g left one. one-alone mark m.committed m.committed (answer_to m command).commits g left (ap (λ (c : Command). (answer_to m c).commits) is ∙ presented-commits m user (subst IsSendable is can) over.basic) refl one)
    leaves
