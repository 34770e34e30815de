-- A change is read, or the octets are none.
use Rattle.std.proofs.Common.{◌≡◌, ◌≤◌, ◌<◌, IsOk, ◌∷◌, [], ◌++◌, length, ◌∙◌, ap, sym, refl, subst, arith, rules, tests}
use Rattle.scql_base.specs.Changes.{ArePacked, change_octets}
use Rattle.scql_base.specs.Strings.{params_of, with_string}
use Rattle.scql_base.proofs.PackedRuns.{change_octets-size}
use Rattle.scql_base.proofs.Splitting.{first_of-length}
use Rattle.apdu.proofs.ListsRead.{changes_in-unnamed, changes_in-wide, changes_in-many, changes_of, changes-one_more, changes-packed, changes-tested, columns-length, columns-one_more, name-is, name-none, too_wide}
use Rattle.apdu.proofs.lists.read_changes.Goals as goal

pub returns-in_err-column : goal.returns-in_err-column
returns-in_err-column c =
    let here = c.in-Some.ensures.some ∙ ap (with_string c.in-Some.column.now) c.in_ok-value.ensures.some in
    rw c.from_residual-in_err-column.ensures (changes_in-unnamed c.loop-column.changes c.in-Some.column.now c.in_ok-value.value.now (params_of c.loop-column.rest.now) (params_of c.in_ok-value.after.now) (changes_of (params_of c.args.octets.now))
    here c.loop-column.invariant.told (name-none c.in-Some.column.now c.in_err-column.ensures.value)
    ∙ changes-tested (params_of c.args.octets.now))

pub returns-then-value-gt-LONGEST_VALUE : goal.returns-then-value-gt-LONGEST_VALUE
returns-then-value-gt-LONGEST_VALUE c =
    let here = c.in-Some.ensures.some ∙ ap (with_string c.in-Some.column.now) c.in_ok-value.ensures.some in
    changes_in-wide c.loop-column.changes c.in-Some.column.now c.in_ok-value.value.now (params_of c.loop-column.rest.now) (params_of c.in_ok-value.after.now) (changes_of (params_of c.args.octets.now))
    here c.loop-column.invariant.told (too_wide c.in_ok-value.value.now c.if-value-gt-LONGEST_VALUE.true)
    ∙ changes-tested (params_of c.args.octets.now)

pub returns-in_err-ok : goal.returns-in_err-ok
returns-in_err-ok c =
    let here = c.in-Some.ensures.some ∙ ap (with_string c.in-Some.column.now) c.in_ok-value.ensures.some in
    let full : 15 ≤ length c.loop-column.columns = search rules in
    let size = columns-length c.loop-column.columns c.loop-column.changes c.loop-column.invariant.columns in
    rw c.from_residual-in_err-ok.ensures (changes_in-many c.loop-column.changes c.in-Some.column.now c.in_ok-value.value.now (params_of c.loop-column.rest.now) (params_of c.in_ok-value.after.now) (changes_of (params_of c.args.octets.now))
    here c.loop-column.invariant.told (omega (arith, full, size))
    ∙ changes-tested (params_of c.args.octets.now))

pub prove-unreachable-requires : goal.prove-unreachable-requires
prove-unreachable-requires c =
    let few : length c.loop-column.columns < 15 = search rules in
    let size = columns-length c.loop-column.columns c.loop-column.changes c.loop-column.invariant.columns in
    let packed : ArePacked (c.loop-column.changes ++ (c.in_ok-column.column, c.in_ok-value.value.now) ∷ []) =
    changes-packed c.loop-column.changes c.in-Some.column.now c.in_ok-column.column c.in_ok-value.value.now c.loop-column.rest.now c.in-Some.after.now c.in_ok-value.after.now c.args.octets.now
    c.loop-column.invariant.packed (omega (arith, few, size)) c.in_ok-column.ensures.value (omega (arith, c.if-value-gt-LONGEST_VALUE.false)) c.in-Some.ensures.exact c.in_ok-value.ensures.exact c.loop-column.invariant.size c.requires.short in
    let ok : IsOk c.push-in-Some.result = c.push-in-Some.ensures.variant.1 packed in
    search (rules, tests)

pub loop-column-preserved : goal.loop-column-preserved
loop-column-preserved c =
    let here = c.in-Some.ensures.some ∙ ap (with_string c.in-Some.column.now) c.in_ok-value.ensures.some in
    let few : length c.loop-column.columns < 15 = search rules in
    let size = columns-length c.loop-column.columns c.loop-column.changes c.loop-column.invariant.columns in
    let named : c.push.new.self ≡ c.loop-column.columns ++ c.copy.result ∷ [] = search rules in
    let packed : ArePacked (c.loop-column.changes ++ (c.in_ok-column.column, c.in_ok-value.value.now) ∷ []) =
    changes-packed c.loop-column.changes c.in-Some.column.now c.in_ok-column.column c.in_ok-value.value.now c.loop-column.rest.now c.in-Some.after.now c.in_ok-value.after.now c.args.octets.now
    c.loop-column.invariant.packed (omega (arith, few, size)) c.in_ok-column.ensures.value (omega (arith, c.if-value-gt-LONGEST_VALUE.false)) c.in-Some.ensures.exact c.in_ok-value.ensures.exact c.loop-column.invariant.size c.requires.short in
    let pushed : c.push-in-Some.new.self ≡ c.loop-column.changes ++ (c.in_ok-column.column, c.in_ok-value.value.now) ∷ [] = search rules in
    record {
      told = changes-one_more c.loop-column.changes c.push-in-Some.new.self c.in-Some.column.now c.in_ok-value.value.now c.in_ok-column.column c.in_ok-value.value.now
          (params_of c.loop-column.rest.now) (params_of c.in_ok-value.after.now) (changes_of (params_of c.args.octets.now))
          c.loop-column.invariant.told here (name-is c.in-Some.column.now c.in_ok-column.column c.in_ok-column.ensures.value) refl pushed;
      columns = columns-one_more c.loop-column.columns c.push.new.self c.loop-column.changes c.push-in-Some.new.self c.copy.result c.in_ok-column.column c.in_ok-value.value.now
          c.loop-column.invariant.columns named c.copy.ensures pushed;
      packed = subst ArePacked (sym pushed) packed;
      size = omega (
        arith,
        ap (λ changes. length (change_octets changes)) pushed,
        change_octets-size c.loop-column.changes c.in_ok-column.column c.in_ok-value.value.now,
        ap length (name-is c.in-Some.column.now c.in_ok-column.column c.in_ok-column.ensures.value),
        first_of-length c.loop-column.rest.now c.in-Some.column.now c.in-Some.after.now c.in-Some.ensures.exact,
        first_of-length c.in-Some.after.now c.in_ok-value.value.now c.in_ok-value.after.now c.in_ok-value.ensures.exact,
        c.loop-column.invariant.size,
      );
    }
