-- The kinds, signatures and scopes that those of the program stand for.
use Rattle.std.specs.Prelude.{ℕ, List, map, Option, option_map}
use Rattle.acl_base.specs.declared.SymId.{SymId}
use Rattle.model_terms.specs.Worlds as worlds
use Rattle.acl_terms.specs.declared.signature.Out.{Out}
use Rattle.acl_terms.specs.declared.signature.Out.TheVariants as out
use Rattle.acl_terms.specs.declared.signature.Signature.{Signature}
use Rattle.acl_terms.specs.declared.signature.Entry.{Entry}

abbrev pub seen_out : Out → worlds.Out
seen_out out.Ordinary = worlds.Ordinary
seen_out (out.Object x) = worlds.Stobj x.0

abbrev pub seen_outs : List Out → List worlds.Out
seen_outs outs = map seen_out outs

abbrev pub seen_signature : Signature → worlds.Signature
seen_signature s = record { ins = seen_outs s.ins; outs = seen_outs s.outs }

abbrev pub seen_entry : Entry → worlds.Entry
seen_entry e = record { name = e.name.0; kind = seen_out e.kind }

abbrev pub seen_scope : List Entry → worlds.Scope
seen_scope es = map seen_entry es

abbrev pub entry_names : List Entry → List ℕ
entry_names es = map (λ (e : Entry). e.name.0) es

-- the number of a name, where there is one
abbrev pub seen_name : Option SymId → Option ℕ
seen_name name = option_map (λ (s : SymId). s.0) name
