-- The obligations of the book's stobj, and the core forms of their parts.
use Rattle.std.specs.Prelude.{refl, ◌≡◌, ℕ, List, [], ◌∷◌, map, codes}
use Rattle.model_symbols.specs.Opening.{common_lisp_text, acl2_text, common_lisp_symbols, acl2_symbols, acl2_package, opening}
use Rattle.model_prims.specs.Rows.{table}
use Rattle.model_terms.specs.Cores.{Core, Cores, cores, Var, If, Call, more, none}
use Rattle.model_expansion.specs.Words.{equal_word, integerp_word}
use Rattle.model_expansion.specs.TypeTerms.{false_core}
use Rattle.model_stobjs.specs.Guards.{renamed_core, renamed_cores, with_functions, all_with_functions, binds, any_binds, generated_guard}
use Rattle.model_stobjs.specs.Obligations.{Claim, Correspondence, GuardTheorem, Preserved, Obligation, core_object, core_objects, binding_objects, obligations}
use Rattle.model_books.specs.Opening.{opening_world}
use Rattle.model_abstract_books_rows.proofs.IdentitySession.{abstract_object, entries, known_standing, known_symbols}

abbrev variables : List ℕ → Cores
variables xs = cores (map Var xs)

abbrev calling : ℕ → List ℕ → Core
calling f xs = Call f (variables xs)

abbrev two : Core → Core → Cores
two f g = more f (more g none)

abbrev pub well_formed : Core
well_formed = calling 204 (212 ∷ [])

abbrev pub corresponding : Core
corresponding = calling 211 (196 ∷ 212 ∷ [])

abbrev pub integer_core : Core
integer_core = calling integerp_word (210 ∷ [])

abbrev pub guard_core : Core
guard_core = If integer_core well_formed false_core

abbrev pub read_supposed : Core
read_supposed = If corresponding well_formed false_core

abbrev pub write_supposed : Core
write_supposed = If corresponding guard_core false_core

abbrev pub kept_supposed : Core
kept_supposed = If well_formed guard_core false_core

abbrev pub created_core : Core
created_core = Call 211 (two (Call 201 none) (Call 206 none))

abbrev pub created_well_core : Core
created_well_core = Call 204 (more (Call 206 none) none)

abbrev pub read_core : Core
read_core = Call equal_word (two (calling 207 (212 ∷ [])) (calling 197 (196 ∷ [])))

abbrev pub written_core : Core
written_core = Call 211 (two (calling 203 (210 ∷ 196 ∷ [])) (calling 209 (210 ∷ 212 ∷ [])))

abbrev pub written_well_core : Core
written_well_core = Call 204 (more (calling 209 (210 ∷ 212 ∷ [])) none)

-- ---- the obligations

abbrev pub obligation : ℕ → Claim → List ℕ → List Core → Core → Obligation
obligation owner claim name supposed f = record { owner = owner; claim = claim; name = name; supposed = supposed; follows = f ∷ [] }

abbrev pub read_hypothesis : List Core
read_hypothesis = corresponding ∷ well_formed ∷ []

abbrev pub write_hypothesis : List Core
write_hypothesis = corresponding ∷ guard_core ∷ []

abbrev pub kept_hypothesis : List Core
kept_hypothesis = well_formed ∷ guard_core ∷ []

abbrev pub known_obligations : List Obligation
known_obligations =
    obligation 217 Correspondence (codes "CREATE-ST{CORRESPONDENCE}") [] created_core
    ∷ obligation 217 Preserved (codes "CREATE-ST{PRESERVED}") [] created_well_core
    ∷ obligation 214 Correspondence (codes "VAL{CORRESPONDENCE}") read_hypothesis read_core
    ∷ obligation 215 Correspondence (codes "UPDATE-VAL{CORRESPONDENCE}") write_hypothesis written_core
    ∷ obligation 215 GuardTheorem (codes "UPDATE-VAL{GUARD-THM}") write_hypothesis integer_core
    ∷ obligation 215 Preserved (codes "UPDATE-VAL{PRESERVED}") kept_hypothesis written_well_core
    ∷ []

pub obligations_known : obligations known_standing.world known_symbols abstract_object ≡ known_obligations
unfolding obligations core_object core_objects binding_objects renamed_core renamed_cores with_functions all_with_functions binds any_binds generated_guard known_standing known_symbols entries opening_world table opening common_lisp_text acl2_text common_lisp_symbols acl2_symbols acl2_package
obligations_known = refl
