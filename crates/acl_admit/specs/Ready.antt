-- Functions that are small enough to be checked and to be made into terms.
use Rattle.std.specs.Prelude.{ℕ, ◌^◌, List, map, length, Bool, ◌&&◌, nat_le}
use Rattle.std.specs.List.{list_all}
use Rattle.model_terms.specs.Rounds as rounds
use Rattle.acl_terms.specs.Forms.{most}
use Rattle.acl_check.specs.declared.member.Member.{Member}
use Rattle.acl_narrow.specs.Narrow.{is_narrow}
use Rattle.acl_cliques.specs.Entered.{member_reach}

-- a function with at most 2^32 formals, whose guard and body are narrow
abbrev pub is_ready : rounds.Member → Bool
is_ready m = nat_le (length m.formals) (2 ^ 32) && (is_narrow 2048 m.guard && is_narrow 2048 m.body)

-- at most 2^32 of them
abbrev pub are_ready : List rounds.Member → Bool
are_ready ms = nat_le (length ms) (2 ^ 32) && list_all is_ready ms

-- how many cells a heap has at least in which the words of functions lie
abbrev pub members_reach : List Member → ℕ
members_reach ms = most (map member_reach ms)
