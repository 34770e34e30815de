-- A command that is sent in parts: the databases that it commits in turn.
use Rattle.std.proofs.Common.{◌≡◌, ℕ, zero, suc, ◌+◌, ◌-◌, ◌≤◌, ◌<◌, Bool, true, false, List, [], ◌∷◌, ◌++◌, length, nat_lt, if◌then◌else◌, append_assoc, refl, sym, ◌∙◌, ap, subst, arith}
use Rattle.std.proofs.lemmas.Bool.{ltb-true, ltb-false}
use Rattle.std.proofs.lemmas.List.{append-nil}
use Rattle.scql_base.specs.declared.operation.Command.{Command}
use Rattle.eeprom.specs.Chip.{Chip}
use Rattle.scql_model.specs.Database.{Database}
use Rattle.scql_model.specs.Machine.{Machine}
use Rattle.scql_model.specs.Replies.{Reply}
use Rattle.scql_model.specs.Spelling.{field_of, part_count, part_octets}
use Rattle.scql_model.specs.Step.{Answer, step}
use Rattle.scql_model.proofs.LastCommits.{last-step}
use Rattle.scql_model.proofs.PartsAgain.{parts_some}
use Rattle.planner.specs.Words.{is_done}
use Rattle.planner.proofs.StatementsLawful.{after-append}
use Rattle.planner.specs.Meaning.{answer_to, followed_by, in_turn, parts_from, all_in_turn}
use Rattle.card_link.specs.Link.{Answered, IsOneOf, LeavesOpen}
use Rattle.scql_model.specs.Lives.{after_all}
use Rattle.card_asking.proofs.Moments.{leaves-all, leaves-both, one-before, one-next}

-- What is left of a command at a part.
abbrev pub part_from : Machine → Command → ℕ → Answer
part_from m c place = in_turn m (part_octets c place) (parts_from (place + 1) (part_count c - (place + 1)) c)

abbrev pub answering : List Database → Answer → Answer
answering commits answer = record answer { commits = commits ++ answer.commits }

pub record HasSent {L : Type 0} (is_at : L → Machine → Type 0) (m : Machine) (c : Command) (place : ℕ) (now : L) : Type 0 where
  pub machine : Machine
  pub commits : List Database
  pub at : is_at now machine
  pub left : answer_to m c ≡ answering commits (part_from machine c place)
  pub committed : machine.committed ≡ after_all m.committed commits

all-parts : (m : Machine) (c : Command) → answer_to m c ≡ part_from m c 0
unfolding answer_to
all-parts m c = go (part_count c) refl
  where
    go : (count : ℕ) → part_count c ≡ count → all_in_turn m (parts_from 0 count c) ≡ in_turn m (part_octets c 0) (parts_from 1 (count - 1) c)
    go zero is = absurd (omega (arith, is, parts_some (length (field_of c.operation))))
    go (suc n) is = ap (λ (k : ℕ). in_turn m (part_octets c 0) (parts_from 1 k c)) (omega arith)

pub nothing-sent : {L : Type 0} (is_at : L → Machine → Type 0) (m : Machine) (c : Command) (now : L) → is_at now m → HasSent is_at m c 0 now
nothing-sent is_at m c now at = record { machine = m; commits = []; at = at; left = all-parts m c; committed = refl }

-- the last part, and one with further parts behind it
at-last : (m : Machine) (c : Command) (place : ℕ) → part_count c ≤ place + 1 → part_from m c place ≡ step m (part_octets c place)
at-last m c place last = ap (λ (n : ℕ). in_turn m (part_octets c place) (parts_from (place + 1) n c)) (let none : part_count c - (place + 1) ≡ 0 = omega (arith, last) in none)

before-last : (m : Machine) (c : Command) (place : ℕ) → place + 1 < part_count c
    → part_from m c place ≡ followed_by (step m (part_octets c place)) (part_from (step m (part_octets c place)).machine c (place + 1))
before-last m c place more =
    ap (λ (n : ℕ). in_turn m (part_octets c place) (parts_from (place + 1) n c)) (let some : part_count c - (place + 1) ≡ suc (part_count c - (place + 1 + 1)) = omega (arith, more) in some)

-- a part was answered by 9000: the next one follows
pub part-sent : {L : Type 0} (is_at : L → Machine → Type 0) (m : Machine) (c : Command) (place : ℕ) (heard : Reply) (old new : L) → (sent : HasSent is_at m c place old) → place + 1 < part_count c
    → Answered is_at (step sent.machine (part_octets c place)) heard new → is_done heard.word ≡ true → HasSent is_at m c (place + 1) new
part-sent is_at m c place heard old new sent more answered done =
    let answer : Answer = step sent.machine (part_octets c place) in
    let is_done' : is_done answer.reply.word ≡ true = ap (λ (r : Reply). is_done r.word) (sym answered.reply) ∙ done in
    record {
      machine = answer.machine;
      commits = sent.commits ++ answer.commits;
      at = answered.at;
      left =
          sent.left
          ∙ (ap (answering sent.commits) (before-last sent.machine c place more
          ∙ ap (λ done. let next : Answer = part_from answer.machine c (place + 1) in let a : Answer = if done then record next { commits = answer.commits ++ next.commits } else answer in a) is_done')
          ∙ ap (λ (commits : List Database). record (part_from answer.machine c (place + 1)) { commits = commits }) (sym (append_assoc sent.commits answer.commits (part_from answer.machine c (place + 1)).commits)));
      committed =
          sym (last-step sent.machine (part_octets c place))
          ∙ (ap (λ (db : Database). after_all db answer.commits) sent.committed ∙ sym (after-append m.committed sent.commits answer.commits));
    }

-- the whole answer: a part was answered by another word, or was the last
pub all-sent : {L : Type 0} (is_at : L → Machine → Type 0) (m : Machine) (c : Command) (place : ℕ) (heard : Reply) (old new : L) → (sent : HasSent is_at m c place old)
    → Answered is_at (step sent.machine (part_octets c place)) heard new → (place + 1 < part_count c → is_done heard.word ≡ false) → Answered is_at (answer_to m c) heard new
all-sent is_at m c place heard old new sent answered ends =
    let answer : Answer = step sent.machine (part_octets c place) in
    let whole : answer_to m c ≡ answering sent.commits answer = sent.left ∙ ap (answering sent.commits) (stops (nat_lt (place + 1) (part_count c)) refl) in
    record {
      reply = answered.reply ∙ ap (λ (a : Answer). a.reply) (sym whole);
      at = subst (is_at new) (ap (λ (a : Answer). a.machine) (sym whole)) answered.at;
    }
  where
    stops : (more : Bool) → nat_lt (place + 1) (part_count c) ≡ more → part_from sent.machine c place ≡ step sent.machine (part_octets c place)
    stops false is = at-last sent.machine c place (ltb-false (place + 1) (part_count c) is)
    stops true is =
        let answer : Answer = step sent.machine (part_octets c place) in
        let more : place + 1 < part_count c = ltb-true (place + 1) (part_count c) is in
        let other : is_done answer.reply.word ≡ false = ap (λ (r : Reply). is_done r.word) (sym answered.reply) ∙ ends more in
        before-last sent.machine c place more
        ∙ ap (λ done. let next : Answer = part_from answer.machine c (place + 1) in let a : Answer = if done then record next { commits = answer.commits ++ next.commits } else answer in a) other

-- what a part commits is of what the command does
part-commits : (m : Machine) (c : Command) (place : ℕ) → (rest : List Database) × ((part_from m c place).commits ≡ (step m (part_octets c place)).commits ++ rest)
part-commits m c place = go (nat_lt (place + 1) (part_count c)) refl
  where
    ended : (step next : Answer) (done : Bool) → (rest : List Database) × ((let a : Answer = if done then record next { commits = step.commits ++ next.commits } else step in a.commits) ≡ step.commits ++ rest)
    ended step next true = (next.commits, refl)
    ended step next false = ([], sym (append-nil step.commits))

    go : (more : Bool) → nat_lt (place + 1) (part_count c) ≡ more → (rest : List Database) × ((part_from m c place).commits ≡ (step m (part_octets c place)).commits ++ rest)
    go false is = ([], ap (λ (a : Answer). a.commits) (at-last m c place (ltb-false (place + 1) (part_count c) is)) ∙ sym (append-nil (step m (part_octets c place)).commits))
    go true is =
        let answer : Answer = step m (part_octets c place) in
        let e = ended answer (part_from answer.machine c (place + 1)) (is_done answer.reply.word) in
        (e.0, ap (λ (a : Answer). a.commits) (before-last m c place (ltb-true (place + 1) (part_count c) is)) ∙ e.1)

-- so the moments of a part are moments of the command
part-moments : {L : Type 0} (is_at : L → Machine → Type 0) (m : Machine) (c : Command) (place mark later g : ℕ) (left : Database) (old : L) → (sent : HasSent is_at m c place old) → later ≡ mark
    → IsOneOf later (sent.machine.committed ∷ (step sent.machine (part_octets c place)).commits) g left → IsOneOf mark (m.committed ∷ (answer_to m c).commits) g left
part-moments is_at m c place mark later g left old sent same within =
    let answer : Answer = step sent.machine (part_octets c place) in
    let front = part-commits sent.machine c place in
    let all : sent.commits ++ (answer.commits ++ front.0) ≡ (answer_to m c).commits = ap (λ (commits : List Database). sent.commits ++ commits) (sym front.1) ∙ ap (λ (a : Answer). a.commits) (sym sent.left) in
    subst (λ (commits : List Database). IsOneOf mark (m.committed ∷ commits) g left) all
    (one-next mark m.committed sent.machine.committed sent.commits (answer.commits ++ front.0) g left sent.committed
    (one-before mark (sent.machine.committed ∷ answer.commits) front.0 g left (subst (λ (n : ℕ). IsOneOf n (sent.machine.committed ∷ answer.commits) g left) same within)))

pub asked-moments : {L : Type 0} (is_at : L → Machine → Type 0) (chip : L → Chip) (mark : L → ℕ) (c : Command) (place now : ℕ) (old mid new : L) → now ≡ place → ((m : Machine) → is_at old m → HasSent is_at m c place mid)
    → ((m : Machine) → is_at old m → LeavesOpen (IsOneOf (mark old) (m.committed ∷ (answer_to m c).commits)) (chip old) (chip mid)) → mark mid ≡ mark old
    → ((m : Machine) → is_at mid m → LeavesOpen (IsOneOf (mark mid) (m.committed ∷ (step m (part_octets c now)).commits)) (chip mid) (chip new))
    → (m : Machine) → is_at old m → LeavesOpen (IsOneOf (mark old) (m.committed ∷ (answer_to m c).commits)) (chip old) (chip new)
asked-moments is_at chip mark c place now old mid new same told moments marked next m at =
    let sent = told m at in
    leaves-both chip (IsOneOf (mark old) (m.committed ∷ (answer_to m c).commits)) old mid new (moments m at)
    (leaves-all chip (IsOneOf (mark mid) (sent.machine.committed ∷ (step sent.machine (part_octets c place)).commits)) (IsOneOf (mark old) (m.committed ∷ (answer_to m c).commits)) mid new
    (λ g left within. part-moments is_at m c place (mark old) (mark mid) g left mid sent marked within)
    (subst (λ (n : ℕ). LeavesOpen (IsOneOf (mark mid) (sent.machine.committed ∷ (step sent.machine (part_octets c n)).commits)) (chip mid) (chip new)) same (next sent.machine sent.at)))
