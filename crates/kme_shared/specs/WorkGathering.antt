-- What the workers of a block hold before their first jobs.
use Rattle.std.specs.Prelude.{◌≡◌, List, []}
use Rattle.std.specs.List.{AllByRecursion}
use Rattle.par_managers.specs.declared.keep.Keep.{Keep}

-- no worker holds a reply or a frame yet
abbrev pub AreBare : List Keep → Type 0
AreBare keeps = AllByRecursion (λ (keep : Keep). (keep.replies.items ≡ []) × (keep.log.frames.items ≡ [])) keeps
