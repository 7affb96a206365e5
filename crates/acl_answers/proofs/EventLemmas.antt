-- Definitions.
use Rattle.std.specs.Prelude.{◌≡◌, ℕ, ℤ, List, [], ◌∷◌, length, map, true, false, Some, None, refl}
use Rattle.std.proofs.Common.{sym, ap, ◌∙◌}
use Rattle.std.proofs.lemmas.List.{append-nil, length-map}
use Rattle.model_symbols.specs.Symbols.{QualifiedName, Table}
use Rattle.model_output_so_far.specs.Commands as commands
use Rattle.model_output_so_far.specs.Sessions as model
use Rattle.model_output_so_far.specs.Lines.{refused, SymbolLimit}
use Rattle.model_output_so_far.specs.Events.{with_names, new_field, new_object, new_names, names_of, first_in_use, if_good, if_room, if_free}
use Rattle.acl_commands.specs.declared.definitions.NewField.{NewField}
use Rattle.acl_commands.specs.Views.{field_views}
use Rattle.acl_base.specs.declared.SymId.{SymId}
use Rattle.acl_answers.specs.declared.stobj.Field.{Field}
use Rattle.acl_answers.specs.Views as views
use Rattle.acl_answers.specs.Making.{Makes, IsFull, HasFields}

-- there are as many fields as are wanted
pub as_many : (t : Table) (wanted : List commands.NewField) (fields : List Field) → HasFields t wanted fields → length fields ≡ length wanted
as_many t wanted fields h = sym (length-map fields (views.field_view t)) ∙ (ap length h.are ∙ length-map wanted (new_field t.packages))

pub room_made : (old new : Table) (names : List QualifiedName) (ids : List SymId) → Makes old new names ids → with_names old.symbols names ≡ record { symbols = new.symbols; is_full = false }
room_made old new names ids m = ap (with_names old.symbols) (sym (append-nil names)) ∙ m.room []

pub room_full : (old new : Table) (names : List QualifiedName) → IsFull old new names → with_names old.symbols names ≡ record { symbols = new.symbols; is_full = true }
room_full old new names m = ap (with_names old.symbols) (sym (append-nil names)) ∙ m.room []

-- ---- the new object

initials : (t : Table) (wanted : List NewField) → map (λ (f : NewField). f.initial) wanted ≡ map (λ (f : commands.NewField). f.initial) (field_views t wanted)
initials t [] = refl
initials t (f ∷ fs) = ap (λ (l : List ℤ). f.initial ∷ l) (initials t fs)

stobj_is : (n : QualifiedName) (fs gs : List model.Field) (vs ws : List ℤ) → fs ≡ gs → vs ≡ ws → (let o : model.Stobj = record { name = n; fields = fs; values = vs } in o) ≡ record { name = n; fields = gs; values = ws }
stobj_is n fs gs vs ws p q = rw (p, q) refl

pub object_made : (t : Table) (current : ℕ) (name : SymId) (wanted : List NewField) (fields : List Field) (values : List ℤ) → HasFields t (field_views t wanted) fields → values ≡ map (λ (f : NewField). f.initial) wanted
    → (let s : model.Session = record { table = t; current = current; object = Some (record { name = views.name_of t name; fields = views.fields_view t fields; values = values }) } in s)
    ≡ record { table = t; current = current; object = Some (new_object t.packages (views.name_of t name) (field_views t wanted)) }
object_made t current name wanted fields values h e =
    ap (λ (o : model.Stobj). record { table = t; current = current; object = Some o })
    (stobj_is (views.name_of t name) (views.fields_view t fields) (map (new_field t.packages) (field_views t wanted)) values (map (λ (f : commands.NewField). f.initial) (field_views t wanted)) h.are (e ∙ initials t wanted))

-- ---- a definition whose names could be given, and one for which there was no room

table_is : (old new : Table) → new.packages ≡ old.packages → (let t : Table = record { packages = old.packages; symbols = new.symbols } in t) ≡ new
table_is old new p = rw (← p) refl

pub known_is : (old new : Table) (current : ℕ) → new.packages ≡ old.packages → model.knowing (views.session_in old current) new.symbols ≡ views.session_in new current
known_is old new current p = ap (λ (t : Table). views.session_in t current) (table_is old new p)

pub good_made : (old new : Table) (current : ℕ) (name : QualifiedName) (fields : List commands.NewField) (ids : List SymId) → Makes old new (new_names old.packages name (names_of fields)) ids
    → if_good (views.session_in old current) name fields None ≡ if_free (views.session_in new current) name fields (first_in_use (views.names_of new ids))
good_made old new current name fields ids m =
    let names = new_names old.packages name (names_of fields) in
    ap (if_room (views.session_in old current) name fields names) (room_made old new names ids m)
    ∙ (ap (λ (s : model.Session). if_free s name fields (first_in_use names)) (known_is old new current m.packages)
    ∙ ap (λ (l : List QualifiedName). if_free (views.session_in new current) name fields (first_in_use l)) (sym m.named))

pub good_full : (old new : Table) (current : ℕ) (name : QualifiedName) (fields : List commands.NewField) → IsFull old new (new_names old.packages name (names_of fields))
    → if_good (views.session_in old current) name fields None ≡ refused (views.session_in new current) SymbolLimit
good_full old new current name fields m =
    let names = new_names old.packages name (names_of fields) in
    ap (if_room (views.session_in old current) name fields names) (room_full old new names m) ∙ ap (λ (s : model.Session). refused s SymbolLimit) (known_is old new current m.packages)
