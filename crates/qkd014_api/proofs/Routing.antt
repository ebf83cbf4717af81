-- The routes after each insertion.
use Rattle.std.proofs.Common.{◌≡◌, Result, Ok, Err, refl}
use Rattle.matchit.specs.Route.{Scan}
use Rattle.matchit.specs.Router.{RouteOf, InsertsRead}
use Rattle.matchit.specs.declared.error.InsertError.{InsertError}
use Rattle.qkd014_api.specs.Resources.{Routes, routed}
use Rattle.qkd014_api.specs.declared.resource.Resource.{Resource}

pub inserted : (x : Result Scan InsertError) (value : Resource) (old new : Routes) → InsertsRead x value old new (Ok tt) → new ≡ routed x value old
inserted (Ok s) value old new is = is.1
inserted (Err e) value old new is = is.0
