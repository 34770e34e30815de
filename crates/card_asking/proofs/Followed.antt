-- How a plan goes on over a link: one step, and many.
use Rattle.std.proofs.Common.{◌≡◌, ◌⊎◌, ℕ, suc, ◌-◌, ◌≤◌, ◌<◌, List, [], ◌∷◌, ◌++◌, Option, Some, None, append_assoc, refl, sym, ◌∙◌, ap, subst, inl, inr, arith}
use Rattle.scql_base.specs.declared.operation.Command.{Command}
use Rattle.scql_model.specs.Database.{Database}
use Rattle.scql_model.specs.Machine.{Machine, reset}
use Rattle.scql_model.specs.Replies.{Reply}
use Rattle.scql_model.specs.Step.{Answer}
use Rattle.card_link.specs.Link.{Answered, IsOneOf}
use Rattle.script.specs.Commands.{IsSendable}
use Rattle.planner.specs.declared.closing.Closing.{Closing}
use Rattle.planner.specs.declared.step.Step.{Step}
use Rattle.planner.specs.declared.step.Step.TheVariants.{Send, Row, ResetCard, Done}
use Rattle.planner.specs.Meaning.{answer_to}
use Rattle.planner.specs.Planned.{Planned, Turn, IfSent, next_of}
use Rattle.planner.specs.Turns.{turns_left, IfGoesOn}
use Rattle.planner.specs.Running.{Ran, run, taken, committing, giving}
use Rattle.planner.specs.Readings.{IsReadingAt}
use Rattle.planner.proofs.Readings.{reading-kept, reads-on}
use Rattle.planner.proofs.Settled.{settled, more-is}
use Rattle.planner.proofs.StatementsLawful.{after-append, last-answer}
use Rattle.planner.proofs.Turning.{next_of-below}
use Rattle.scql_model.specs.Lives.{after_all}
use Rattle.card_asking.specs.Following.{Follows, IsEnded, whole_run, run_from, behind, given_by, heard_at, to_go, turn_by}
use Rattle.card_asking.proofs.Moments.{one-before, one-next}

-- lists that join to none
pub none-before : {A : Type 0} (xs ys : List A) → xs ++ ys ≡ [] → xs ≡ []
none-before [] ys none = refl
none-before (x ∷ xs) ys none = absurd cc

pub none-behind : {A : Type 0} (xs ys : List A) → xs ++ ys ≡ [] → ys ≡ []
none-behind [] ys none = none
none-behind (x ∷ xs) ys none = absurd cc

-- a run with steps enough doesn't change with more
enough : (k n : ℕ) (m : Machine) (last : Option Reply) (p : Planned) → turns_left p < k → k ≤ n → run k m last p ≡ run n m last p
enough k n m last p some most =
    settled k (n - k) m last p some ∙ ap (λ (i : ℕ). run i m last p) (more-is k (n - k) ∙ omega (arith, most))

step-whole : (n : ℕ) (m : Machine) (q : Planned) (step : Step) → IfGoesOn step (turns_left q < n) → taken (λ x r y. run n x r y) m q step ≡ taken whole_run m q step
step-whole n m q (Send c) below =
    ap (committing (answer_to m c).commits) (sym (enough (suc (turns_left q)) n (answer_to m c).machine (Some (answer_to m c).reply) q (omega arith) (omega (arith, below))))
step-whole n m q (Row c) below =
    ap (λ (ran : Ran). giving q.row (committing (answer_to m c).commits ran))
    (sym (enough (suc (turns_left q)) n (answer_to m c).machine (Some (answer_to m c).reply) q (omega arith) (omega (arith, below))))
step-whole n m q ResetCard below = sym (enough (suc (turns_left q)) n (reset m) None q (omega arith) (omega (arith, below)))
step-whole n m q (Done closing) below = refl

pub whole-step : (m : Machine) (last : Option Reply) (p : Planned) → whole_run m last p ≡ run_from m (next_of last p).plan (next_of last p).step
whole-step m last p = step-whole (turns_left p) m (next_of last p).plan (next_of last p).step (next_of-below last p)

-- fewer steps are left
less-sent : (q : Planned) (next : Step) (p : Planned) → IfGoesOn next (turns_left q < turns_left p) → to_go q next < suc (turns_left p)
less-sent q (Done closing) p below = omega arith
less-sent q (Send c) p below = omega (arith, below)
less-sent q (Row c) p below = omega (arith, below)
less-sent q ResetCard p below = omega (arith, below)

pub less-after : (last : Option Reply) (p : Planned) → to_go (next_of last p).plan (next_of last p).step < suc (turns_left p)
less-after last p = less-sent (next_of last p).plan (next_of last p).step p (next_of-below last p)

-- so of the next step that a plan was seen to take
pub less-seen : (last : Option Reply) (p q : Planned) (next : Step) → next_of last p ≡ record { plan = q; step = next } → to_go q next < suc (turns_left p)
less-seen last p q next is = subst (λ (turn : Turn). to_go turn.plan turn.step < suc (turns_left p)) is (less-after last p)

pub asked-less : (last : Option Reply) (p q : Planned) (step next : Step) (c : Command) → (step ≡ Send c) ⊎ (step ≡ Row c) → next_of last p ≡ record { plan = q; step = next } → IfGoesOn step (to_go q next < to_go p step)
asked-less last p q step next c (inl is) is-turn = subst (λ (s : Step). IfGoesOn s (to_go q next < to_go p s)) (sym is) (less-seen last p q next is-turn)
asked-less last p q step next c (inr is) is-turn = subst (λ (s : Step). IfGoesOn s (to_go q next < to_go p s)) (sym is) (less-seen last p q next is-turn)

-- A command was sent: the run goes on by its answer.
sent-follows : {L : Type 0} (is_at : L → Machine → Type 0) (m : Machine) (p q : Planned) (c : Command) (next : Step) (heard : Reply) (now : L)
    → IsSendable c → Answered is_at (answer_to m c) heard now → next_of (Some heard) p ≡ record { plan = q; step = next } → Follows is_at m p (Send c) [] q next now
sent-follows is_at m p q c next heard now can answered is-turn =
    let a : Answer = answer_to m c in
    record {
      machine = a.machine;
      commits = a.commits;
      at = answered.at;
      left =
          ap (committing a.commits) (ap (λ (reply : Reply). whole_run a.machine (Some reply) p) (sym answered.reply)
          ∙ (whole-step a.machine (Some heard) p ∙ ap (λ (turn : Turn). run_from a.machine turn.plan turn.step) is-turn));
      committed = sym (last-answer m c);
      reads = λ is. (subst (λ (turn : Turn). IsReadingAt turn.plan turn.step) is-turn (reads-on (Some heard) p is.select is.own), reading-kept m c can is.reads);
    }

-- its row was given before it
row-follows : {L : Type 0} (is_at : L → Machine → Type 0) (m : Machine) (p q : Planned) (c : Command) (next : Step) (now : L) → Follows is_at m p (Send c) [] q next now → Follows is_at m p (Row c) (p.row ∷ []) q next now
row-follows is_at m p q c next now e = record {
  machine = e.machine;
  commits = e.commits;
  at = e.at;
  left = ap (giving p.row) e.left;
  committed = e.committed;
  reads = λ is. e.reads (record { select = is.select; own = is.own; reads = is.reads });
}

-- so a step that sends a command
pub asked-follows : {L : Type 0} (is_at : L → Machine → Type 0) (m : Machine) (p q : Planned) (step : Step) (c : Command) (next : Step) (heard : Reply) (now : L) → (step ≡ Send c) ⊎ (step ≡ Row c)
    → IfSent step IsSendable → Answered is_at (answer_to m c) heard now → next_of (Some heard) p ≡ record { plan = q; step = next } → Follows is_at m p step (given_by p step) q next now
asked-follows is_at m p q step c next heard now (inl is) can answered is-turn =
    subst (λ (s : Step). IfSent s IsSendable → Follows is_at m p s (given_by p s) q next now) (sym is) (λ can. sent-follows is_at m p q c next heard now can answered is-turn) can
asked-follows is_at m p q step c next heard now (inr is) can answered is-turn =
    subst (λ (s : Step). IfSent s IsSendable → Follows is_at m p s (given_by p s) q next now) (sym is) (λ can. row-follows is_at m p q c next now (sent-follows is_at m p q c next heard now can answered is-turn)) can

pub asked-turn : (p q : Planned) (step next : Step) (c : Command) (heard : Reply) → (step ≡ Send c) ⊎ (step ≡ Row c) → next_of (Some heard) p ≡ record { plan = q; step = next } → turn_by p step heard ≡ record { plan = q; step = next }
asked-turn p q step next c heard (inl is) is-turn = subst (λ (s : Step). turn_by p s heard ≡ record { plan = q; step = next }) (sym is) is-turn
asked-turn p q step next c heard (inr is) is-turn = subst (λ (s : Step). turn_by p s heard ≡ record { plan = q; step = next }) (sym is) is-turn

pub asked-reply : (m : Machine) (step : Step) (c : Command) (before heard : Reply) → (step ≡ Send c) ⊎ (step ≡ Row c) → heard ≡ (answer_to m c).reply → heard ≡ heard_at m step before
asked-reply m step c before heard (inl is) same = subst (λ (s : Step). heard ≡ heard_at m s before) (sym is) same
asked-reply m step c before heard (inr is) same = subst (λ (s : Step). heard ≡ heard_at m s before) (sym is) same

-- The card was reset.
pub reset-follows : {L : Type 0} (is_at : L → Machine → Type 0) (m : Machine) (p q : Planned) (next : Step) (now : L) → is_at now (reset m) → next_of None p ≡ record { plan = q; step = next } → Follows is_at m p ResetCard [] q next now
reset-follows is_at m p q next now at is-turn = record {
  machine = reset m;
  commits = [];
  at = at;
  left = whole-step (reset m) None p ∙ ap (λ (turn : Turn). run_from (reset m) turn.plan turn.step) is-turn;
  committed = refl;
  reads = λ is. absurd is.reads;
}

nothing-follows : {L : Type 0} (is_at : L → Machine → Type 0) (m : Machine) (p : Planned) (step : Step) (now : L) → is_at now m → Follows is_at m p step [] p step now
nothing-follows is_at m p step now at = record {
  machine = m;
  commits = [];
  at = at;
  left = refl;
  committed = refl;
  reads = λ is. (is, refl);
}

-- a plan that took its first step
pub first-follows : {L : Type 0} (is_at : L → Machine → Type 0) (m : Machine) (p q : Planned) (next : Step) (now : L) → is_at now m → next_of None p ≡ record { plan = q; step = next }
    → Follows is_at m (next_of None p).plan (next_of None p).step [] q next now
first-follows is_at m p q next now at is = subst (λ (turn : Turn). Follows is_at m turn.plan turn.step [] q next now) (sym is) (nothing-follows is_at m q next now at)

-- What went on so far, and what goes on from there.
pub follows-both : {L : Type 0} (is_at : L → Machine → Type 0) (m : Machine) (p q s : Planned) (step next last : Step) (xs ys : List (List ℕ)) (mid new : L)
    → (first : Follows is_at m p step xs q next mid) → Follows is_at first.machine q next ys s last new → Follows is_at m p step (xs ++ ys) s last new
follows-both is_at m p q s step next last xs ys mid new first second = record {
  machine = second.machine;
  commits = first.commits ++ second.commits;
  at = second.at;
  left =
      first.left ∙ (ap (behind xs first.commits) second.left
      ∙ (ap (λ (rows : List (List ℕ)). record (run_from second.machine s last) { rows = rows; commits = first.commits ++ (second.commits ++ (run_from second.machine s last).commits) }) (sym (append_assoc xs ys (run_from second.machine s last).rows))
      ∙ ap (λ (commits : List Database). record (run_from second.machine s last) { rows = (xs ++ ys) ++ (run_from second.machine s last).rows; commits = commits }) (sym (append_assoc first.commits second.commits (run_from second.machine s last).commits))));
  committed = second.committed ∙ (ap (λ (db : Database). after_all db second.commits) first.committed ∙ sym (after-append m.committed first.commits second.commits));
  reads = λ is. let one = first.reads is in let two = second.reads one.0 in (two.0, two.1 ∙ one.1);
}

-- a run that came to its last step is at its end
pub is-ended : {L : Type 0} (is_at : L → Machine → Type 0) (m : Machine) (p q : Planned) (step : Step) (rows : List (List ℕ)) (closing : Closing) (now : L)
    → Follows is_at m p step rows q (Done closing) now → IsEnded is_at (run_from m p step) closing now
is-ended is_at m p q step rows closing now e = record {
  at = subst (is_at now) (sym (ap (λ (ran : Ran). ran.machine) e.left)) e.at;
  closes = sym (ap (λ (ran : Ran). ran.closing) e.left);
}

-- The moments of a command are moments of the run, and so are those of what goes on.
command-moment : (mark : ℕ) (m : Machine) (p : Planned) (c : Command) (g : ℕ) (left : Database) → IsOneOf mark (m.committed ∷ (answer_to m c).commits) g left → IsOneOf mark (m.committed ∷ (run_from m p (Send c)).commits) g left
command-moment mark m p c g left is = one-before mark (m.committed ∷ (answer_to m c).commits) (whole_run (answer_to m c).machine (Some (answer_to m c).reply) p).commits g left is

pub asked-moment : (mark : ℕ) (m : Machine) (p : Planned) (step : Step) (c : Command) (g : ℕ) (left : Database) → (step ≡ Send c) ⊎ (step ≡ Row c) → IsOneOf mark (m.committed ∷ (answer_to m c).commits) g left
    → IsOneOf mark (m.committed ∷ (run_from m p step).commits) g left
asked-moment mark m p step c g left (inl sends) is = subst (λ (s : Step). IsOneOf mark (m.committed ∷ (run_from m p s).commits) g left) (sym sends) (command-moment mark m p c g left is)
asked-moment mark m p step c g left (inr sends) is = subst (λ (s : Step). IsOneOf mark (m.committed ∷ (run_from m p s).commits) g left) (sym sends) (command-moment mark m p c g left is)

pub follows-moment : {L : Type 0} (is_at : L → Machine → Type 0) (mark later : ℕ) (m : Machine) (p q : Planned) (step next : Step) (rows : List (List ℕ)) (mid : L) (g : ℕ) (left : Database) → later ≡ mark
    → (first : Follows is_at m p step rows q next mid) → IsOneOf later (first.machine.committed ∷ (run_from first.machine q next).commits) g left → IsOneOf mark (m.committed ∷ (run_from m p step).commits) g left
follows-moment is_at mark later m p q step next rows mid g left same first is =
    subst (λ (ran : Ran). IsOneOf mark (m.committed ∷ ran.commits) g left) (sym first.left)
    (one-next mark m.committed first.machine.committed first.commits (run_from first.machine q next).commits g left first.committed
    (subst (λ (n : ℕ). IsOneOf n (first.machine.committed ∷ (run_from first.machine q next).commits) g left) same is))
