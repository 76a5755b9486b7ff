-- What is there is not missing, and is one.
use Rattle.std.specs.Prelude.{◌≡◌, Some, None}
use Rattle.std.proofs.lemmas.Option.{none-some, same_Some}

pub some_same : {A : Type 0} {x y : A} → Some x ≡ Some y → x ≡ y
some_same {A} {x} {y} e = same_Some x y e

pub none_some : {A B : Type 0} {x : A} → None ≡ Some x → B
none_some {A} {B} {x} e = absurd (none-some x e)
