-- Functions that stand in a world by their names alone.
use Rattle.std.specs.Prelude.{ℕ, List, map}
use Rattle.acl_terms.specs.declared.form.Core.{Core}
use Rattle.acl_terms.specs.declared.definition.Definition.{Definition}
use Rattle.acl_terms.specs.declared.definition.Definition.TheVariants as definition
use Rattle.acl_worlds.specs.Contents.{Content}
use Rattle.acl_drafts.specs.declared.draft.Draft.{Draft}
use Rattle.acl_check.specs.declared.member.Member.{Member}
use Rattle.acl_definitions.specs.Added.{with_definitions}

-- a function as it stands by its name
abbrev pub named : Draft → Definition
named d = definition.Named d.name d.formals

-- the world in which functions are expanded
abbrev pub with_named : Content → List Draft → Content
with_named w ds = with_definitions w (map named ds)

abbrev pub names_of : List Draft → List ℕ
names_of ds = map (λ (d : Draft). d.name.0) ds

-- a function with its guard and its body
abbrev pub member_with : Draft → Core → Core → Member
member_with d guard body = record { name = d.name; formals = d.formals; stobjs = d.declared.stobjs; guard = guard; body = body }
