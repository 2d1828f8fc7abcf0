-- A bit is set just where the byte is of none of the four kinds.
use Rattle.std.proofs.Common.{◌≡◌, ℕ, List, length, map, take, sym, refl, arith}
use Rattle.std.proofs.lemmas.List.{map-id}
use Rattle.std.proofs.lemmas.Simd.{zip2_of_maps, splat_is_map, length-chunk}
use mir.Val.{Fits}
use Rattle.std.specs.Prelude.{not}
use Rattle.events.specs.Names.{is_name_byte}
use Rattle.events.proofs.EachLane.{sel-of-maps, top-of-maps, first-bytes, bits-of-bytes}
use Rattle.events.proofs.allowed.not_allowed.Goals as goal

pub returns : goal.returns
returns c =
    let v : List ℕ = take 16 c.args.bytes.now in
    let long : length v ≡ 16 = length-chunk 0 16 c.args.bytes.now (omega (arith, c.requires)) in
    let own : v ≡ map (λ x. x) v = sym (map-id v) in
    bits-of-bytes _ (λ b. not (is_name_byte b)) v
    (top-of-maps _ _ _ v 7
    (sel-of-maps _ _ _ v
    (top-of-maps _ _ _ v 7 (zip2_of_maps _ _ _ v (zip2_of_maps _ _ _ v own (splat_is_map v 16 32 long))
    (splat_is_map v 16 97 long)) (splat_is_map v 16 25 long)) (splat_is_map v 16 0 long)
    (sel-of-maps _ _ _ v (top-of-maps _ _ _ v 7 (zip2_of_maps _ _ _ v own (splat_is_map v 16 48 long))
    (splat_is_map v 16 9 long)) (splat_is_map v 16 0 long)
    (sel-of-maps _ _ _ v (top-of-maps _ _ _ v 7 (zip2_of_maps _ _ _ v own (splat_is_map v 16 45 long))
    (splat_is_map v 16 1 long)) (splat_is_map v 16 0 long)
    (sel-of-maps _ _ _ v (top-of-maps _ _ _ v 7 own (splat_is_map v 16 95 long)) (splat_is_map v 16 0 long)
    (splat_is_map v 16 255 long)))))
    (splat_is_map v 16 0 long))
    (omega (arith, long)) (first-bytes 16 c.args.bytes.now (λ i. Fits.fits (c.type_inv.bytes i))) refl
