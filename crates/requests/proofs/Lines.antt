-- The lines, by what was answered.
use mathlib.Core.List.{List, [], ◌++◌}
use mathlib.Core.Path.{◌≡◌}
use Prim.Native.Nat.{ℕ}
use Rattle.forms.specs.Lent.{where_taken}
use Rattle.image.specs.Stores.{loaded, save_answer, save_leaves}
use Rattle.rules.specs.declared.Outcome.{Outcome}
use Rattle.rules.specs.declared.Refusal.{Refusal}
use Rattle.runfile.specs.RunFile.{read_answer}
use Rattle.text.specs.Lines.{line_end}
use Rattle.requests.specs.Lines.{applied_line, bare_line, bracketed, bytes_line, front, load_line, parts_fields, read_line, save_line, saved_field, saved_into, step_line}
use Rattle.rules.specs.Answer.{Answer}
use Rattle.std.specs.Prelude.{Ok, Err}

-- what stands in brackets
there : {a : Answer} (fields : List ℕ) → a ≡ Ok tt → bracketed a fields ≡ fields
unfolding bracketed where_taken
there fields t = rw t

not_there : {a : Answer} {why : Refusal} (fields : List ℕ) → a ≡ Err why → bracketed a fields ≡ []
unfolding bracketed where_taken
not_there fields t = rw t

-- an image that is taken, and one that is refused
module _ (image : List ℕ) {o : Outcome} (is : o ≡ loaded image) where
  module _ (t : o.answer ≡ Ok tt) where
    pub loads : load_line image ≡ front 1 o.answer ++ saved_field o.pair ++ line_end
    unfolding load_line
    loads = rw (← is, there (saved_field o.pair) t)

    pub applies : (program event : List ℕ) → step_line image program event ≡ applied_line program o.pair event
    unfolding step_line where_taken
    applies program event = rw (← is, t)

    pub saves : (buf : List ℕ) → save_line image buf ≡ bytes_line 6 (save_answer o.pair buf) (save_leaves o.pair buf)
    unfolding save_line where_taken
    saves buf = rw (← is, t)

    pub saved_into_lem : (buf : List ℕ) → saved_into image buf ≡ save_leaves o.pair buf
    unfolding saved_into where_taken
    saved_into_lem buf = rw (← is, t)

  module _ {why : Refusal} (t : o.answer ≡ Err why) where
    pub loads_not : load_line image ≡ front 1 o.answer ++ [] ++ line_end
    unfolding load_line
    loads_not = rw (← is, not_there (saved_field o.pair) t)

    pub applies_not : (program event : List ℕ) → step_line image program event ≡ bare_line 2 (Err why)
    unfolding step_line where_taken
    applies_not program event = rw (← is, t)

    pub saves_not : (buf : List ℕ) → save_line image buf ≡ bare_line 6 (Err why)
    unfolding save_line where_taken
    saves_not buf = rw (← is, t)

    pub saved_not : (buf : List ℕ) → saved_into image buf ≡ buf
    unfolding saved_into where_taken
    saved_not buf = rw (← is, t)

-- a run file that is taken, and one that is refused
module _ (file : List ℕ) {a : Answer} (is : a ≡ read_answer file) where
  pub reads : a ≡ Ok tt → read_line file ≡ front 5 a ++ parts_fields file ++ line_end
  unfolding read_line
  reads t = rw (← is, there (parts_fields file) t)

  pub reads_not : {why : Refusal} → a ≡ Err why → read_line file ≡ front 5 a ++ [] ++ line_end
  unfolding read_line
  reads_not t = rw (← is, not_there (parts_fields file) t)
