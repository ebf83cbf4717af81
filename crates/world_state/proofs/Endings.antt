-- Facts about calls that succeed and calls that fail.
use Rattle.std.specs.Prelude.{Result, Ok, Err, OnOk, OnErr, IfOk}

pub ok_both : {T E P Q R : Type 0} (r : Result T E) → (P → Q → R) → OnOk r P → OnOk r Q → OnOk r R
ok_both (Ok x) f p q = f p q
ok_both (Err e) f p q = tt

pub on_err : {T E R : Type 0} (r : Result T E) → R → OnErr r R
on_err (Ok x) h = tt
on_err (Err e) h = h

pub if_ok : {T E : Type 0} {P Q : T → Type 0} (r : Result T E) → ((x : T) → P x → Q x) → IfOk r P → IfOk r Q
if_ok (Ok x) f p = f x p
if_ok (Err e) f p = tt

pub err_so : {T E P Q : Type 0} (r : Result T E) → (P → Q) → OnErr r P → OnErr r Q
err_so (Ok x) f p = tt
err_so (Err e) f p = f p
