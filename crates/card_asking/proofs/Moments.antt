-- Moments that follow one another, and the databases that they have.
use Rattle.std.proofs.Common.{◌≡◌, ℕ, List, [], ◌∷◌, ◌++◌, IfSome, ◌∙◌, subst, inl, inr}
use Rattle.eeprom.specs.Chip.{Chip}
use Rattle.eeprom.proofs.Moments.{throughout-same, throughout-then, throughout-weaker}
use Rattle.scql_model.specs.Database.{Database}
use Rattle.scql_model.specs.Opens.{Opens}
use Rattle.card_link.specs.Link.{Holds, IsOneOf, LeavesOpen}
use Rattle.scql_model.specs.Lives.{after_all}

pub one-behind : (mark : ℕ) (xs ys : List Database) (g : ℕ) (left : Database) → IsOneOf mark ys g left → IsOneOf mark (xs ++ ys) g left
one-behind mark [] ys g left is = is
one-behind mark (x ∷ xs) ys g left is = inr (one-behind mark xs ys g left is)

pub one-before : (mark : ℕ) (xs ys : List Database) (g : ℕ) (left : Database) → IsOneOf mark xs g left → IsOneOf mark (xs ++ ys) g left
one-before mark [] ys g left is = absurd is
one-before mark (x ∷ xs) ys g left (inl is) = inl is
one-before mark (x ∷ xs) ys g left (inr is) = inr (one-before mark xs ys g left is)

-- the last is among them
pub one-last : (mark : ℕ) (db : Database) (xs : List Database) (g : ℕ) (left : Database) → g ≡ mark → left ≡ after_all db xs → IsOneOf mark (db ∷ xs) g left
one-last mark db [] g left same is = inl (same, is)
one-last mark db (x ∷ xs) g left same is = inr (one-last mark x xs g left same is)

-- what follows the last of some
pub one-next : (mark : ℕ) (db now : Database) (xs ys : List Database) (g : ℕ) (left : Database) → now ≡ after_all db xs → IsOneOf mark (now ∷ ys) g left → IsOneOf mark (db ∷ (xs ++ ys)) g left
one-next mark db now xs ys g left last (inl is) = one-before mark (db ∷ xs) ys g left (one-last mark db xs g left is.0 (is.1 ∙ last))
one-next mark db now xs ys g left last (inr is) = inr (one-behind mark xs ys g left is)

-- its mark is that one
pub one-mark : (mark : ℕ) (dbs : List Database) (g : ℕ) (left : Database) → IsOneOf mark dbs g left → g ≡ mark
one-mark mark [] g left is = absurd is
one-mark mark (db ∷ dbs) g left (inl is) = is.0
one-mark mark (db ∷ dbs) g left (inr is) = one-mark mark dbs g left is

-- where nothing is committed there is one database
pub one-alone : (mark : ℕ) (db now : Database) (commits : List Database) (g : ℕ) (left : Database) → commits ≡ [] → db ≡ now → IsOneOf mark (db ∷ commits) g left → Holds mark now g left
one-alone mark db now [] g left none same (inl holds) = rw same at holds
one-alone mark db now [] g left none same (inr is) = absurd is
one-alone mark db now (other ∷ commits) g left none same is = absurd cc

pub leaves-all : {L : Type 0} (chip : L → Chip) (P Q : ℕ → Database → Type 0) (old new : L) → ((g : ℕ) (left : Database) → P g left → Q g left)
    → LeavesOpen P (chip old) (chip new) → LeavesOpen Q (chip old) (chip new)
leaves-all chip P Q old new each leaves = throughout-weaker (chip old) (chip new) _ _ leaves (λ g left opens. (opens.0, opens.1, each g opens.0 opens.2))

pub leaves-both : {L : Type 0} (chip : L → Chip) (P : ℕ → Database → Type 0) (old mid new : L) → LeavesOpen P (chip old) (chip mid) → LeavesOpen P (chip mid) (chip new) → LeavesOpen P (chip old) (chip new)
leaves-both chip P old mid new first second = throughout-then (chip old) (chip mid) (chip new) _ first second

-- before anything is done the image opens to the machine's database
pub leaves-none : {L : Type 0} (chip : L → Chip) (mark : L → ℕ) (P : ℕ → Database → Type 0) (l : L) (db : Database) → mark l ≡ (chip l).still.mark → IfSome (chip l).image (λ image. Opens image db) → P (mark l) db
    → LeavesOpen P (chip l) (chip l)
leaves-none chip mark P l db marks opens holds = throughout-same (chip l) _ (λ image told. (db, rw told at opens, subst (λ (g : ℕ). P g db) marks holds))
