-- The entries at a place of the content, as the floor is left them: the raw sequences under the label are left out.
use Rattle.std.specs.Prelude.{ℕ, Bool, cond, ◌≡◌, List, [], ◌∷◌}
use Rattle.recording.specs.Recording.{Bytes, Recording, Item}
use Rattle.recording.specs.Coloured.{open_after}
use Rattle.recording.specs.Edit.{front, back}
use Rattle.writer.specs.declared.Cursor.{Cursor}
use Rattle.writer.specs.Write.{out, add, Fits, left}
use Rattle.view.specs.View.{drop_raws}
use Rattle.open_label.specs.declared.Walk.{Walk}
use Rattle.open_label.specs.Open.{Tells}
use Rattle.open_label.specs.Walk.{Standing}

-- r is behind them
pub record Passed (l ds ns ts : List ℕ) (w r : Walk) : Type 0 where
  pub standing : Standing ds ns ts r
  pub here : r.c.at ≡ w.c.at
  pub rest : left ds ns ts r.c ≡ back 0 (left ds ns ts w.c)
  pub tells : (s : List Bytes) → Tells l w.o s → Tells l r.o (open_after s (front 0 (left ds ns ts w.c)))

-- the entry, unless it goes
abbrev pub shown : Bool → Item → List Item
shown goes x = cond goes [] (x ∷ [])

-- the buffers of entries and texts had these items put at their ends, whatever the data buffer holds
unfoldable pub EntriesPut : List Item → List ℕ → List ℕ → Cursor → List ℕ → List ℕ → Cursor → Type 0
EntriesPut is oe ot c oe' ot' c' = (od : List ℕ) → out od oe' ot' c' ≡ add is (out od oe ot c)

-- there is room for the entries at the walk's place that the floor is left
pub record EntriesFit (l ds ns ts : List ℕ) (w : Walk) (oe ot : List ℕ) : Type 0 where
  pub stack : List Bytes
  pub tells : Tells l w.o stack
  pub bytes : List ℕ
  pub room : Fits (drop_raws l stack (front 0 (left ds ns ts w.c))) (out bytes oe ot w.c)

-- they are written
unfoldable pub EntriesWritten : List ℕ → List ℕ → List ℕ → List ℕ → Walk → List ℕ → List ℕ → Walk → List ℕ → List ℕ → Type 0
EntriesWritten l ds ns ts w oe ot r oe' ot' =
    (s : List Bytes) → Tells l w.o s → EntriesPut (drop_raws l s (front 0 (left ds ns ts w.c))) oe ot w.c oe' ot' r.c

-- ── the same of a recording
abbrev pub PassedIn : Bytes → Recording → Walk → Walk → Type 0
PassedIn l q w r = Passed l q.data_bytes q.entry_numbers q.text w r

abbrev pub EntriesFitIn : Bytes → Recording → Walk → List ℕ → List ℕ → Type 0
EntriesFitIn l q w oe ot = EntriesFit l q.data_bytes q.entry_numbers q.text w oe ot

abbrev pub EntriesWrittenIn : Bytes → Recording → Walk → List ℕ → List ℕ → Walk → List ℕ → List ℕ → Type 0
EntriesWrittenIn l q w oe ot r oe' ot' = EntriesWritten l q.data_bytes q.entry_numbers q.text w oe ot r oe' ot'
