-- The octets of a command stand at the front of its place.
use Rattle.std.proofs.Common.{rules, ◌≡◌, ℕ, ◌/◌, List, ◌++◌, length, take, Result, Ok, Err, refl, sym, ◌∙◌, ap, subst, arith, length-take-le}
use Rattle.std.specs.Result.{MatchResult}
use Rattle.std.proofs.Math.Seq.{take-append_seam}
use Rattle.std.proofs.lemmas.Bool.{eq-eqb}
use Rattle.hex.specs.Hex.{decode_of, decode_sized}
use Rattle.hex.specs.declared.error.FromHexError.{FromHexError}
use Rattle.scql_model.specs.Lines.{command, hexadecimal_in}
use Rattle.apdu.proofs.line.read_command.Goals as goal

decoded : (A : Type 0) (E : FromHexError → Type 0) (digits out rest : List ℕ) (room : ℕ) → room ≡ length digits / 2 → length out ≡ room → ((e : FromHexError) → E e → ⊥)
    → MatchResult (decode_sized digits room) (λ bytes. A × (out ≡ bytes)) E → command (take (length digits / 2) (out ++ rest)) ≡ hexadecimal_in (decode_of digits)
decoded A E digits out rest room is size never value =
    let same : decode_sized digits room ≡ decode_of digits = rw (is, eq-eqb (length digits / 2) (length digits / 2) refl) refl in
    go (decode_of digits) (subst (λ (r : Result (List ℕ) FromHexError). MatchResult r (λ bytes. A × (out ≡ bytes)) E) same value)
  where
    front : take (length digits / 2) (out ++ rest) ≡ out
    front = ap (λ (n : ℕ). take n (out ++ rest)) (sym is ∙ sym size) ∙ take-append_seam out rest

    go : (r : Result (List ℕ) FromHexError) → MatchResult r (λ bytes. A × (out ≡ bytes)) E → command (take (length digits / 2) (out ++ rest)) ≡ hexadecimal_in r
    go (Ok bytes) value = ap command (front ∙ value.1)
    go (Err e) value = absurd (never e value)

pub returns-in-Ok : goal.returns-in-Ok
returns-in-Ok c = record {
  content =
      decoded _ _ c.args.digits.now c.decode_to_slice.new.out _ _ (length-take-le (length c.args.digits.now / 2) c.args.place.now (omega (arith, c.requires, c.told-place))) c.decode_to_slice.auto.out (λ e wrong. cc wrong) c.in-Ok.ensures.value;
  within = search rules;
}
