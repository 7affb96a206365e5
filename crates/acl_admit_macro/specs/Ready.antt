-- Macros that are small enough to be checked and to be made into terms.
use Rattle.std.specs.Prelude.{◌^◌, length, Bool, ◌&&◌, nat_le}
use Rattle.model_terms.specs.Cores.{Core}
use Rattle.model_terms.specs.Worlds.{MacroFormals}
use Rattle.model_terms.specs.Faults.{formal_names}
use Rattle.acl_narrow.specs.Narrow.{is_narrow}

-- a macro with at most 2^32 formals, whose body is narrow
abbrev pub is_ready : MacroFormals → Core → Bool
is_ready formals body = nat_le (length (formal_names formals)) (2 ^ 32) && is_narrow 2048 body
