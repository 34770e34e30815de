use Rattle.std.proofs.Common.{◌≡◌, List, ℕ, Some, refl, sym, ap, ◌∙◌, arith, rules}
use Rattle.scql_base.specs.Strings.{params_of, strings_of}
use Rattle.scql_base.proofs.RowOctets.{IsRow-read, counted, row_from-long, row_from-many, row_from-row, row_from-uncounted}
use Rattle.scql_base.proofs.Splitting.{AreParams-from_params_of}
use Rattle.scql_base.proofs.row.Row.read_into.Goals.{then-count-gt-MOST-via-then-count-gt-MOST, then-count-gt-MOST-via-else-count-gt-MOST+then-octets-gt-LARGEST}
use Rattle.scql_base.proofs.row.Row.read_into.Goals as goal

pub returns-in_err-count : goal.returns-in_err-count
returns-in_err-count c = rw c.from_residual.ensures (row_from-uncounted c.args.octets.now c.in_err-count.ensures)

pub returns-then-count-gt-MOST : goal.returns-then-count-gt-MOST
returns-then-count-gt-MOST c =
    let told = counted c.args.octets.now c.in_ok-count.count c.in_ok-count.ensures in
    elim c.then-count-gt-MOST.branch [
      | then-count-gt-MOST-via-then-count-gt-MOST w ↦ sym (row_from-many c.args.octets.now told.values told.split (omega (arith, told.size, w.if-count-gt-MOST.true)))
      | then-count-gt-MOST-via-else-count-gt-MOST+then-octets-gt-LARGEST w ↦ sym (row_from-long c.args.octets.now told.values told.split w.if-octets-gt-LARGEST.true)
    ]

split-of : (octets run : List ℕ) (values : List (List ℕ)) → run ≡ octets → params_of octets ≡ Some values → strings_of run ≡ values
split-of octets run values same is = ap strings_of same ∙ rw is refl

pub invariant_of-self : goal.invariant_of-self
invariant_of-self c =
    let told = counted c.args.octets.now c.in_ok-count.count c.in_ok-count.ensures in
    let run : c.try_extend_from_slice.new.self.items ≡ c.args.octets.now = search rules in
    rw (split-of c.args.octets.now c.try_extend_from_slice.new.self.items told.values run told.split) (
      IsRow-read c.args.octets.now told.values told.split (omega (arith, told.size, c.if-count-gt-MOST.false)) c.if-octets-gt-LARGEST.false told.narrow,
      run ∙ AreParams-from_params_of told.values c.args.octets.now told.split,
      told.size,
    )

pub returns : goal.returns
returns c =
    let told = counted c.args.octets.now c.in_ok-count.count c.in_ok-count.ensures in
    let run : c.try_extend_from_slice.new.self.items ≡ c.args.octets.now = search rules in
    ap Some (split-of c.args.octets.now c.try_extend_from_slice.new.self.items told.values run told.split)
    ∙ sym (row_from-row c.args.octets.now told.values told.split (omega (arith, told.size, c.if-count-gt-MOST.false)) c.if-octets-gt-LARGEST.false told.narrow)
