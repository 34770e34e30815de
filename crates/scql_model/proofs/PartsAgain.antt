-- The parts of a command are read back one by one, and the last with those before it as that command.
use Rattle.std.proofs.Common.{◌≡◌, ◌≤◌, ◌<◌, ℕ, zero, suc, ◌+◌, ◌*◌, ◌==◌, nat_le, Bool, true, false, List, [], ◌∷◌, ◌++◌, length, take, drop, Option, None, Some, if◌then◌else◌, refl, ap, subst, sym, ◌∙◌, arith, length-take-le, length-drop, append_assoc, take-append-drop, add-one, ◌-◌}
use Rattle.std.specs.List.{concat}
use Rattle.std.proofs.lemmas.Bool.{leb-true, lt-ltb, le-ltb, ne_eqb, and_from}
use Rattle.std.proofs.lemmas.List.{drop-drop, take_all}
use Rattle.scql_base.specs.declared.operation.Command.{Command}
use Rattle.scql_base.specs.declared.operation.Line.{Line}
use Rattle.scql_base.specs.declared.operation.OperationKind.{OperationKind}
use Rattle.scql_model.specs.Operations.{has_secrets, comes_in_parts, kind_of}
use Rattle.scql_model.specs.WellFormed.{IsWellFormed}
use Rattle.scql_model.specs.Form.{takes_case, is_case_3, a_command, part_on, parts_of, refused_on}
use Rattle.scql_model.specs.Spelling.{field_of, fits, parts_for, part_count, first_parts, part_at, goes_on_after, part_octets, octets_of, HasLine, IsTaken, ReadsAs}
use Rattle.scql_model.proofs.TailsAgain.{tail, data-again}
use Rattle.scql_model.proofs.TakenFields.{Lined, Lined-field, Lined-piece}
use Rattle.scql_model.specs.Parameters.{operation_in}
use Rattle.scql_base.specs.Row.{row_size}
use Rattle.scql_base.specs.Words.{wrong_data}
use Rattle.scql_base.specs.declared.operation.Operation.{Operation}
use Rattle.scql_base.specs.declared.operation.Operation.TheVariants.{Insert}
use Rattle.scql_model.proofs.OperationFields.{operation-again, row-beyond}
use Rattle.scql_model.proofs.CommandsAgain.{part-again, last-again, read_as}

-- Cutting.
length-first_parts : (count : ℕ) (octets : List ℕ) → length (first_parts count octets) ≡ count
length-first_parts zero octets = refl
length-first_parts (suc count) octets = ap suc (length-first_parts count (drop 255 octets))

drop-behind : (count : ℕ) (octets : List ℕ) → drop (255 * count) (drop 255 octets) ≡ drop (255 * suc count) octets
drop-behind count octets =
    let sum : 255 + 255 * count ≡ 255 * suc count = omega arith in
    drop-drop (255 * count) 255 octets ∙ ap (λ (n : ℕ). drop n octets) sum

-- the parts joined, and what is behind them
pub joined-first_parts : (count : ℕ) (octets : List ℕ) → concat (first_parts count octets) ++ drop (255 * count) octets ≡ octets
joined-first_parts zero octets = refl
joined-first_parts (suc count) octets =
    append_assoc (take 255 octets) (concat (first_parts count (drop 255 octets))) (drop (255 * suc count) octets)
    ∙ (ap (λ (back : List ℕ). take 255 octets ++ (concat (first_parts count (drop 255 octets)) ++ back)) (sym (drop-behind count octets))
    ∙ (ap (λ (back : List ℕ). take 255 octets ++ back) (joined-first_parts count (drop 255 octets)) ∙ take-append-drop 255 octets))

-- one part more
first_parts-suc : (count : ℕ) (octets : List ℕ) → first_parts (suc count) octets ≡ first_parts count octets ++ part_at count octets ∷ []
first_parts-suc zero octets = refl
first_parts-suc (suc count) octets =
    ap (λ (parts : List (List ℕ)). take 255 octets ∷ parts) (first_parts-suc count (drop 255 octets))
    ∙ ap (λ (back : List ℕ). take 255 octets ∷ (first_parts count (drop 255 octets) ++ take 255 back ∷ [])) (drop-behind count octets)

pub first_parts-next : (count : ℕ) (octets : List ℕ) → first_parts (count + 1) octets ≡ first_parts count octets ++ part_at count octets ∷ []
first_parts-next count octets = rw add-one (first_parts-suc count octets)

-- Sizes.
before_last : (size place : ℕ) → place + 1 < parts_for size → 255 * place + 255 < size
before_last size place more = omega (arith, more)

at_last : (size place : ℕ) → place + 1 ≡ parts_for size → size ≤ 255 * place + 255
at_last size place is = omega (arith, is)

in_last : (size place : ℕ) → place + 1 ≡ parts_for size → 1 ≤ place → 255 * place < size
in_last size place is later = omega (arith, is, later)

few_parts : (size place : ℕ) → size ≤ 1275 → place + 1 < parts_for size → place < 4
few_parts size place short more = omega (arith, short, more)

short-field : (comes : Bool) (size : ℕ) → nat_le size (if comes then 1275 else 255) ≡ true → size ≤ 1275
short-field true size is = leb-true size 1275 is
short-field false size is = let short : size ≤ 255 = leb-true size 255 is in omega (arith, short)

comes-long : (comes : Bool) (size : ℕ) → nat_le size (if comes then 1275 else 255) ≡ true → 255 < size → comes ≡ true
comes-long true size is long = refl
comes-long false size is long = let short : size ≤ 255 = leb-true size 255 is in absurd (omega (arith, short, long))

pub parts_some : (size : ℕ) → 1 ≤ parts_for size
parts_some size = omega arith

pub parts_enough : (size : ℕ) → size ≤ 255 * parts_for size
parts_enough size = omega arith

pub parts_least : (size n : ℕ) → 1 ≤ n → size ≤ 255 * n → parts_for size ≤ n
parts_least size n some enough = omega (arith, some, enough)

-- A part.
length-part : (place : ℕ) (field : List ℕ) → 255 * place + 255 < length field → length (part_at place field) ≡ 255
length-part place field more = length-take-le 255 (drop (255 * place) field) (omega (arith, length-drop (255 * place) field, more))

pub part-whole : (place : ℕ) (field : List ℕ) → length field ≤ 255 * place + 255 → part_at place field ≡ drop (255 * place) field
part-whole place field last = take_all 255 (drop (255 * place) field) (omega (arith, length-drop (255 * place) field, last))

case_3 : (octets : List ℕ) → 1 ≤ length octets → is_case_3 (tail octets None) ≡ true
case_3 [] some = absurd (omega (arith, some))
case_3 (octet ∷ octets) some = refl

pub part-read : (table : List Line) (limit : ℕ) (c : Command) (place : ℕ) → IsWellFormed c → fits c ≡ true → place + 1 < part_count c → HasLine table (kind_of c.operation)
    → ReadsAs table limit c (first_parts place (field_of c.operation)) (part_octets c place) (part_on c.channel (kind_of c.operation) (part_at place (field_of c.operation)))
unfolding part_octets
part-read table limit c place formed' fit more has channels chain open' before =
    let asked : OperationKind = kind_of c.operation in
    let field : List ℕ = field_of c.operation in
    let octets : List ℕ = part_at place field in
    let long : 255 * place + 255 < length field = before_last (length field) place more in
    let size : length octets ≡ 255 = length-part place field long in
    let comes : comes_in_parts asked ≡ true = comes-long (comes_in_parts asked) (length field) fit (omega (arith, long)) in
    let lined = Lined-piece c.operation octets None comes (omega (arith, size)) in
    let goes : goes_on_after c place ≡ true = lt-ltb (place + 1) (part_count c) more in
    let few : place < 4 = few_parts (length field) place (short-field (comes_in_parts asked) (length field) fit) more in
    let room : (length (first_parts place field) == 4) ≡ false = ne_eqb (length (first_parts place field)) 4 (λ four. omega (arith, four, few, length-first_parts place field)) in
    rw (lined.found, goes)
    (part-again table lined.line c.channel asked octets channels chain limit formed'.channel (has lined.line lined.found) lined.kind formed'.closed
    (and_from (takes_case lined.line.takes (tail octets None)) (is_case_3 (tail octets None)) lined.takes (case_3 octets (omega (arith, size)))) open'
    ∙ rw (before, comes, room, data-again octets None) refl)

-- The last part.
Lined-last : (c : Command) (place : ℕ) → IsWellFormed c → fits c ≡ true → place + 1 ≡ part_count c → Lined (kind_of c.operation) (tail (part_at place (field_of c.operation)) c.le)
Lined-last c zero formed' fit last =
    let whole : part_at 0 (field_of c.operation) ≡ field_of c.operation = part-whole 0 (field_of c.operation) (at_last (length (field_of c.operation)) 0 last) in
    subst (λ (octets : List ℕ). Lined (kind_of c.operation) (tail octets c.le)) (sym whole) (Lined-field c.operation c.le formed'.form formed'.wanted)
Lined-last c (suc place) formed' fit last =
    let field : List ℕ = field_of c.operation in
    let long : 255 * suc place < length field = in_last (length field) (suc place) last (omega arith) in
    let whole : part_at (suc place) field ≡ drop (255 * suc place) field = part-whole (suc place) field (at_last (length field) (suc place) last) in
    let size : length (part_at (suc place) field) ≡ length field - 255 * suc place = ap length whole ∙ length-drop (255 * suc place) field in
    Lined-piece c.operation (part_at (suc place) field) c.le (comes-long (comes_in_parts (kind_of c.operation)) (length field) fit (omega (arith, long))) (omega (arith, size, long))

-- the last part is read as what its operation's whole field is read as
last-as : (table : List Line) (limit : ℕ) (c : Command) (place : ℕ) (found : Option Operation) → IsWellFormed c → fits c ≡ true → place + 1 ≡ part_count c → HasLine table (kind_of c.operation)
    → operation_in (has_secrets table) (kind_of c.operation) limit (field_of c.operation) ≡ found → ReadsAs table limit c (first_parts place (field_of c.operation)) (part_octets c place) (read_as c found)
unfolding part_octets
last-as table limit c place found formed' fit last has is channels chain open' before =
    let field : List ℕ = field_of c.operation in
    let lined = Lined-last c place formed' fit last in
    let goes : goes_on_after c place ≡ false = le-ltb (place + 1) (part_count c) (omega (arith, last)) in
    let joined : concat (parts_of (kind_of c.operation) (chain c.channel)) ++ part_at place field ≡ field
    = ap (λ (parts : List (List ℕ)). concat parts ++ part_at place field) before
    ∙ (ap (λ (back : List ℕ). concat (first_parts place field) ++ back) (part-whole place field (at_last (length field) place last)) ∙ joined-first_parts place field) in
    rw (lined.found, goes) (last-again table lined.line c (part_at place field) channels chain limit found formed' (has lined.line lined.found) lined.kind lined.takes open' is joined)

pub last-read : (table : List Line) (limit : ℕ) (c : Command) (place : ℕ) → IsWellFormed c → fits c ≡ true → place + 1 ≡ part_count c → HasLine table (kind_of c.operation)
    → IsTaken (has_secrets table) limit c.operation → ReadsAs table limit c (first_parts place (field_of c.operation)) (part_octets c place) (a_command c)
last-read table limit c place formed' fit last has taken = last-as table limit c place (Some c.operation) formed' fit last has (operation-again (has_secrets table) limit c.operation formed'.form taken)

-- a row beyond the limit is refused at the last part
pub last-refused : (table : List Line) (limit : ℕ) (c : Command) (place : ℕ) (name : List ℕ) (values : List (List ℕ)) → c.operation ≡ Insert name values → IsWellFormed c → fits c ≡ true → place + 1 ≡ part_count c
    → HasLine table (kind_of c.operation) → nat_le (row_size values) limit ≡ false → ReadsAs table limit c (first_parts place (field_of c.operation)) (part_octets c place) (refused_on c.channel wrong_data)
last-refused table limit c place name values is formed' fit last has long =
    last-as table limit c place None formed' fit last has (subst (λ (o : Operation). operation_in (has_secrets table) (kind_of o) limit (field_of o) ≡ None) (sym is) (row-beyond (has_secrets table) limit name values long))

-- a command of one part is that part
pub part-one : (c : Command) → part_count c ≡ 1 → part_octets c 0 ≡ octets_of c
unfolding part_octets octets_of
part-one c one =
    let goes : goes_on_after c 0 ≡ false = le-ltb 1 (part_count c) (omega (arith, one)) in
    let whole : part_at 0 (field_of c.operation) ≡ field_of c.operation = part-whole 0 (field_of c.operation) (at_last (length (field_of c.operation)) 0 (sym one)) in
    rw (goes, whole) refl
