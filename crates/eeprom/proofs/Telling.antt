-- What a device in memory tells becomes what an EEPROM's calls say.
use Rattle.std.proofs.Common.{◌≡◌, ℕ, ◌+◌, ◌<◌, ◌≤◌, min, ltb, List, ◌++◌, length, take, Some, None, Result, Ok, Err, OnOk, OnErr, refl, ap, inl, inr, sym, ◌∙◌, subst, arith}
use Rattle.std.proofs.lemmas.Bool.{cases_Bool, ltb-true, lt-ltb}
use Rattle.std.proofs.lemmas.Grind.{common_steps}
use Rattle.std.specs.declared.alloc.AllocError.{AllocError}
use Rattle.eeprom.specs.Chip.{Becomes, RisesBy, Writes}
use Rattle.eeprom.specs.Image.{overwrite}
use Rattle.eeprom.specs.Output.{Follows}
use Rattle.eeprom.specs.Told.{Told, with_write, with_output, told_count, chip_from}
use Rattle.eeprom.proofs.Replayed.{length-overwrite, overwrite-own}

same_some : {A : Type 0} (x y : A) → Some x ≡ Some y → x ≡ y
same_some x y e = cc

-- what is told before and after
pub becomes_told : {A B : Type 0} (step : A → B → Type 0) (before : A) (after : B) → step before after → Becomes step (Some before) (Some after)
becomes_told step before after s = λ now e. (before, refl, subst (step before) (same_some after now e) s)

counted-below : (count : ℕ) → count < 340282366920938463463374607431768211455 → told_count count ≡ Some count
counted-below count h = rw (lt-ltb count 340282366920938463463374607431768211455 h) refl

-- so many more, as far as it is kept
pub counted-more : (before more after : ℕ) → after ≡ min (before + more) 340282366920938463463374607431768211455 → Becomes (RisesBy more) (told_count before) (told_count after)
counted-more before more after e now told =
    elim (cases_Bool (ltb after 340282366920938463463374607431768211455)) [
      | inl t ↦ (let below : after < 340282366920938463463374607431768211455 = ltb-true _ _ t in
          let same : after ≡ now = same_some after now (sym (counted-below after below) ∙ told) in
          (before, counted-below before (omega arith), omega arith))
      | inr f ↦ (let none : None ≡ Some now = rw f at told in cc)
    ]

-- a write that was recorded, and one for whose record there was no room
writes_recorded : (at : ℕ) (octets wrote : List ℕ) (old new : Told) (written written2 sink_faults : ℕ) → new ≡ with_write at wrote old → length wrote ≡ length octets → at + length octets ≤ length old.image →
    written2 ≡ min (written + length octets) 340282366920938463463374607431768211455 → Writes at octets (chip_from old written sink_faults) (chip_from new written2 sink_faults)
writes_recorded at octets wrote old new written written2 sink_faults is same fits e = rw is (record {
  within = fits;
  still = rw (length-overwrite old.image at wrote (rw same fits)) refl;
  written = counted-more written (length octets) written2 e;
  image = becomes_told _ old.image (overwrite old.image at wrote) (record { octets = wrote; count_is = same; is = refl });
  later = omega arith;
  past = becomes_told _ old.past _ (inl (old.image, refl, rw same refl));
})

writes_nothing : (at : ℕ) (octets : List ℕ) (old new : Told) (written written2 sink_faults : ℕ) → new ≡ old → at + length octets ≤ length old.image →
    written2 ≡ min (written + length octets) 340282366920938463463374607431768211455 → Writes at octets (chip_from old written sink_faults) (chip_from new written2 sink_faults)
writes_nothing at octets old new written written2 sink_faults is fits e = rw is (record {
  within = fits;
  still = refl;
  written = counted-more written (length octets) written2 e;
  image = becomes_told _ old.image old.image (overwrite-own old.image at (length octets) fits);
  later = omega arith;
  past = becomes_told _ old.past old.past (inr (refl, refl, refl));
})

pub writes-chip : (result : Result (Unit {0}) AllocError) (at : ℕ) (octets wrote : List ℕ) (old new : Told) (written written2 sink_faults : ℕ) → OnOk result (new ≡ with_write at wrote old) → OnErr result (new ≡ old) →
    length wrote ≡ length octets → at + length octets ≤ length old.image → written2 ≡ min (written + length octets) 340282366920938463463374607431768211455 →
    Writes at octets (chip_from old written sink_faults) (chip_from new written2 sink_faults)
writes-chip (Ok _) at octets wrote old new written written2 sink_faults ok err same fits e = writes_recorded at octets wrote old new written written2 sink_faults ok same fits e
writes-chip (Err _) at octets wrote old new written written2 sink_faults ok err same fits e = writes_nothing at octets old new written written2 sink_faults err fits e

-- a piece of output was given, or nothing where there was no room
pub follows-half : (result : Result (Unit {0}) AllocError) (old new : Told) (piece octets : List ℕ) (count : ℕ) → OnOk result (new ≡ with_output piece old) → OnErr result (new ≡ old) → piece ≡ take count octets →
    (count : ℕ) × Follows count octets (Some old.output) (Some new.output)
follows-half (Ok _) old new piece octets count ok err is = (count, becomes_told _ old.output new.output (ap (λ (told : Told). told.output) ok ∙ ap (λ piece. old.output ++ piece) is))
follows-half (Err _) old new piece octets count ok err is = (0, becomes_told _ old.output new.output (ap (λ (told : Told). told.output) err ∙ grind (arith, common_steps)))
