-- A NaN goes through every operation.
use Rattle.std.specs.Prelude.{◌≡◌, refl, Float}
use Rattle.std.specs.Float.{nan, inf, fin, Format}
use Rattle.std.specs.Float.Ieee.{neg, add, sub, mul, div}

pub mul_nan : (f : Format) (x : Float) → mul f x nan ≡ nan
unfolding mul
mul_nan f nan = refl
mul_nan f (inf s) = refl
mul_nan f (fin s m e) = refl

pub nan_div : (f : Format) (x : Float) → div f nan x ≡ nan
unfolding div
nan_div f x = refl

pub add_nan : (f : Format) (x : Float) → add f x nan ≡ nan
unfolding add
add_nan f nan = refl
add_nan f (inf s) = refl
add_nan f (fin s m e) = refl

pub nan_add : (f : Format) (x : Float) → add f nan x ≡ nan
unfolding add
nan_add f x = refl

pub nan_sub : (f : Format) (x : Float) → sub f nan x ≡ nan
unfolding sub
nan_sub f x = nan_add f (neg x)

pub sub_nan : (f : Format) (x : Float) → sub f x nan ≡ nan
unfolding sub neg
sub_nan f x = add_nan f x
