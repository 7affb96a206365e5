-- Functions whose forms are small.
use Rattle.std.specs.Prelude.{◌≡◌, ◌++◌, ◌∷◌, List, [], true}
use Rattle.std.specs.List.{All}
use Rattle.std.proofs.Common.{sym, subst, arith}
use Rattle.std.proofs.lemmas.List.Elements.{All-nil, All-push}
use Rattle.acl_base.specs.declared.SymId.{SymId}
use Rattle.acl_heap.specs.Objects.{Objects}
use Rattle.acl_terms.specs.declared.form.Core.{Core}
use Rattle.acl_terms.specs.declared.form.Core.TheVariants as variants
use Rattle.acl_thread.specs.Sizes.{Fits}
use Rattle.acl_check.specs.declared.member.Member.{Member}
use Rattle.acl_check.specs.Members.{FitsMember}
use Rattle.acl_check_rows.specs.Small.{Small}
use Rattle.acl_check_rows.proofs.SmallLemmas.{small_fits, var_small}

pub small_is_fit : (h : Objects) (f : Core) → Small h 10 f → Fits h f
small_is_fit h f s = small_fits h 10 f (omega arith) s

pub variable_is_fit : (h : Objects) (f : Core) (x : SymId) → f ≡ variants.Var x → Fits h f
variable_is_fit h f x e = small_fits h 10 f (omega arith) (var_small h 10 f x e (omega arith))

pub member_is_fit : (h : Objects) (m : Member) → Fits h m.guard → Fits h m.body → FitsMember h m
member_is_fit h m g b = record { guard = g; body = b }

pub none_yet : (h : Objects) (ms : List Member) → ms ≡ [] → All (FitsMember h) ms
none_yet h ms e = subst (All (FitsMember h)) (sym e) (All-nil (FitsMember h))

pub one_more : (h : Objects) (ms made : List Member) (m : Member) → made ≡ ms ++ m ∷ [] → All (FitsMember h) ms → FitsMember h m → All (FitsMember h) made
one_more h ms made m e a f = subst (All (FitsMember h)) (sym e) (All-push (FitsMember h) ms m a f)
