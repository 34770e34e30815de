-- Writes behind one another, and writes that cover others.
use Rattle.std.proofs.Common.{◌≡◌, ℕ, zero, suc, ◌+◌, ◌≤◌, List, [], ◌∷◌, ◌++◌, length, take, drop, Option, Some, None, option_map, IfSome, sym, refl, ap, ap₂, ◌∙◌, append_assoc, append-nil, arith, length-append, drop-drop, zero-add, suc-add, length-take-le}
use Rattle.std.proofs.lemmas.List.{drop_at, take_all, drop_all}
use Rattle.std.proofs.lemmas.Option.{same_Some, none-some}
use Rattle.eeprom.specs.Image.{overwrite}
use Rattle.eeprom.proofs.Regions.{take-overwrite}

pub overwrite-nil : (image : List ℕ) (at : ℕ) → overwrite image at [] ≡ image
overwrite-nil image zero = refl
overwrite-nil [] (suc at) = rw suc-add refl
overwrite-nil (x ∷ image) (suc at) = rw suc-add (ap (λ rest. x ∷ rest) (overwrite-nil image at))

overwrite_front : (xs ys rest : List ℕ) → overwrite (xs ++ rest) (length xs) ys ≡ xs ++ overwrite rest 0 ys
overwrite_front [] ys rest = refl
overwrite_front (x ∷ xs) ys rest = rw suc-add (ap (λ rest. x ∷ rest) (overwrite_front xs ys rest))

drop-nil : (n : ℕ) → ◌≡◌ {A = List ℕ} (drop n []) []
drop-nil zero = refl
drop-nil (suc n) = refl

overwrite_past : (image : List ℕ) (at : ℕ) (xs : List ℕ) → length image ≤ at → overwrite image at xs ≡ image ++ xs
overwrite_past image at xs h =
    let e : length image ≤ at + length xs = omega arith in
    rw (take_all at image h, drop_all (at + length xs) image e, append-nil) refl

pub overwrite-behind : (image : List ℕ) (at : ℕ) (xs ys : List ℕ) → overwrite (overwrite image at xs) (at + length xs) ys ≡ overwrite image at (xs ++ ys)
overwrite-behind image zero xs ys =
    simp zero-add (overwrite_front xs ys (drop (length xs) image) ∙ simp (zero-add, drop-drop, append_assoc, length-append))
overwrite-behind [] (suc at) xs ys =
    let far : length xs ≤ suc at + length xs = omega arith in
    simp (drop-nil, append-nil) (overwrite_past xs (suc at + length xs) ys far)
overwrite-behind (x ∷ image) (suc at) xs ys = simp suc-add (ap (λ rest. x ∷ rest) (overwrite-behind image at xs ys))

pub option-behind : (image : Option (List ℕ)) (at : ℕ) (xs ys : List ℕ) → option_map (λ now. overwrite now (at + length xs) ys) (option_map (λ was. overwrite was at xs) image) ≡ option_map (λ was. overwrite was at (xs ++ ys)) image
option-behind None at xs ys = refl
option-behind (Some image) at xs ys = ap Some (overwrite-behind image at xs ys)

pub option-nil : (image : Option (List ℕ)) (at : ℕ) → option_map (λ was. overwrite was at []) image ≡ image
option-nil None at = refl
option-nil (Some image) at = ap Some (overwrite-nil image at)

pub map-some : (f : List ℕ → List ℕ) (image : Option (List ℕ)) (now : List ℕ) → option_map f image ≡ Some now → (was : List ℕ) × (image ≡ Some was) × (now ≡ f was)
map-some f None now h = absurd (none-some now h)
map-some f (Some was) now h = (was, refl, sym (same_Some _ _ h))

-- what comes behind is written first, and then the front
pub overwrite-before : (was left front body : List ℕ) (at place : ℕ) → place ≡ at + length front → place ≤ length left → take at left ≡ take at was → drop place left ≡ drop place was
    → overwrite (overwrite left place body) at front ≡ overwrite was at (front ++ body)
overwrite-before was left front body at place is long before behind =
    let rest : drop (place + length body) left ≡ drop (place + length body) was =
    sym (drop-drop (length body) place left) ∙ ap (λ (xs : List ℕ). drop (length body) xs) behind ∙ drop-drop (length body) place was in
    let head : take at (overwrite left place body) ≡ take at was = take-overwrite at place left body (omega arith) long ∙ before in
    let tail : drop place (overwrite left place body) ≡ body ++ drop (place + length body) was =
    drop_at (take place left) (body ++ drop (place + length body) left) place (length-take-le place left long) ∙ ap (λ (xs : List ℕ). body ++ xs) rest in
    let size : place + length body ≡ at + length (front ++ body) = omega (arith, length-append front body) in
    ap₂ (λ (xs ys : List ℕ). xs ++ (front ++ ys)) head (ap (λ (k : ℕ). drop k (overwrite left place body)) (sym is) ∙ tail)
    ∙ simp append_assoc (ap (λ (k : ℕ). take at was ++ (front ++ (body ++ drop k was))) size)

pub option-front : (front body : List ℕ) (size : ℕ) (old cleared written new : Option (List ℕ)) → length front ≤ size → IfSome cleared (λ image. length image ≡ size)
    → option_map (λ image. drop (length front) image) cleared ≡ option_map (λ image. drop (length front) image) old
    → written ≡ option_map (λ image. overwrite image (length front) body) cleared → new ≡ option_map (λ image. overwrite image 0 front) written
    → new ≡ option_map (λ image. overwrite image 0 (front ++ body)) old
option-front front body size None None written new fits sized same w n = rw (n, w) refl
option-front front body size None (Some cleared) written new fits sized same w n = absurd (cc)
option-front front body size (Some was) None written new fits sized same w n = absurd (cc)
option-front front body size (Some was) (Some cleared) written new fits sized same w n =
    let long : length front ≤ length cleared = omega arith in
    rw (n, w) (ap Some (overwrite-before was cleared front body 0 (length front) (omega arith) long refl (same_Some _ _ same)))
