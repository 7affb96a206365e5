-- The definitions' drafts that those of the program stand for in a heap.
use Rattle.std.specs.Prelude.{◌≡◌, ℕ, ◌≤◌, List, [], ◌∷◌, ◌++◌, map, max, length, Option, Some, None}
use Rattle.model_events.specs.Functions as written
use Rattle.acl_heap.specs.Objects.{Objects, object_of, reach}
use Rattle.acl_terms.specs.Forms.{most, numbers}
use Rattle.acl_declare.specs.Said.{seen_declared, declared_reach}
use Rattle.acl_drafts.specs.declared.draft.Draft.{Draft}

abbrev pub seen_draft : Objects → Draft → written.Draft
seen_draft h d = record {
  name = d.name.0;
  formals = numbers d.formals;
  declared = seen_declared h d.declared;
  body = object_of h d.body;
  executable = d.executable;
}

abbrev pub draft_reach : Draft → ℕ
draft_reach d = max (declared_reach d.declared) (reach d.body)

abbrev pub seen_drafts : Objects → List Draft → List written.Draft
seen_drafts h ds = map (seen_draft h) ds

abbrev pub drafts_reach : List Draft → ℕ
drafts_reach ds = most (map draft_reach ds)

-- a draft, whose words lie in the heap, or none
abbrev pub SeenDraft : Objects → Option Draft → Option written.Draft → Type 0
SeenDraft h None o = o ≡ None
SeenDraft h (Some d) o = (o ≡ Some (seen_draft h d)) × (draft_reach d ≤ length h)

-- with a draft put last, where there is one
abbrev pub with_draft : List written.Draft → Option written.Draft → Option (List written.Draft)
with_draft done None = None
with_draft done (Some d) = Some (done ++ d ∷ [])
