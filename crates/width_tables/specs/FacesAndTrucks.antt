-- Request Q-5 (document 02): U+1F600–1F64F and U+1F680–1F6C5 are two columns wide, and any call lent no text with such a character answers as before. `proofs/RequestLaws.antt` proves it.
-- Before: the same definitions by document 01's nineteen ranges. Call by call, and not over a list of calls from the texts that it starts with (`joined`).
use Rattle.std.specs.Prelude.{ℕ, Bool, true, false, ◌||◌, ◌≡◌, List, [], ◌∷◌, ◌++◌}
use Rattle.chars.specs.Utf8.{within}
use Rattle.chars.specs.Width.{nineteen_ranges, width_in, char_width_of}
use Rattle.chars.specs.Chars.{Character}
use Rattle.recording.specs.Recording.{Bytes, Recording, recording}
use Rattle.recording.specs.Outcome.{done}
use Rattle.recording.specs.Pins.{x}
use Rattle.layout.specs.Wrap.{line_of}
use Rattle.layout.specs.Layout.{pad_end, replace, expand_tabs, Call}
use Rattle.layout.specs.Pins.{roomy, replacement}
use Rattle.elide.specs.Elide.{elided}
use Rattle.tally.specs.Tally.{tally_outcome}
use Rattle.width_tables.specs.ByTable as By
use Rattle.width_tables.specs.ByTable.{chars_by}
use Rattle.width_tables.specs.Tables.{Answers, library, by_table, SameOn, TextsOf, AnsweredBy, run_by, ListsAlike, TallySameOn, TallyAnsweredBy}

-- a face or a truck
abbrev pub face_or_truck : ℕ → Bool
face_or_truck c = within 0x1F600 0x1F64F c || within 0x1F680 0x1F6C5 c

abbrev pub Other : ℕ → Type 0
Other c = face_or_truck c ≡ false

abbrev pub as_before_of : Bytes → List Character
as_before_of d = chars_by nineteen_ranges d

abbrev pub before : Answers
before = by_table nineteen_ranges

-- ── texts with a face as they were answered before: there the two tables differ, so these rows hold what stands under `By` to its table
abbrev pub face : Bytes
face = 0xF0 ∷ 0x9F ∷ 0x98 ∷ 0x80 ∷ []

abbrev pub faces : Bytes
faces = face ++ face

pub record AsItWas : Type 0 where
  pub width : By.text_width_of as_before_of face ≡ 1
  pub cuts : (By.truncate_end_pos_of as_before_of 1 faces ≡ 4) × (By.trimmed_start_pos as_before_of 1 faces ≡ 4)
  pub kept : (By.truncate_end_width as_before_of 1 faces ≡ 1) × (By.truncate_start_width as_before_of 1 faces ≡ 1)
  pub fill : By.fill_count_of as_before_of 3 face ≡ 2
  pub spaced : By.wrap_lines_of as_before_of 3 false (face ++ 0x20 ∷ face) ≡ line_of 0 9 ∷ []
  pub unbroken : By.wrap_lines_of as_before_of 2 true faces ≡ line_of 0 8 ∷ []
  pub listed : By.line_numbers as_before_of faces (line_of 0 8 ∷ []) ≡ 0 ∷ 8 ∷ 2 ∷ []
  pub tabs : before.layout (record { job = expand_tabs 4; room = roomy }) (recording (face ++ 0x09 ∷ []) [] [])
      ≡ done (record { recording = recording (face ++ 0x20 ∷ 0x20 ∷ 0x20 ∷ []) [] []; lines = []; number = 0 })
  pub star : before.floor x roomy (recording face (0 ∷ 0 ∷ 0 ∷ 1 ∷ 4 ∷ 1 ∷ 0 ∷ 0 ∷ []) x)
      ≡ done (record { recording = recording (0x2A ∷ []) (0 ∷ 0 ∷ 0 ∷ 1 ∷ 1 ∷ 1 ∷ 0 ∷ 0 ∷ []) x; lines = []; number = 0 })
  pub short : By.elide_start_of as_before_of 2 (0x61 ∷ 0x62 ∷ face) (0x2E ∷ []) ≡ elided (0x2E ∷ face) 2

-- ── over a list: F0 9F, with 98 80 put behind it, then padded at the end to 3 by `.`
abbrev pub cut_off : Recording
cut_off = recording (0xF0 ∷ 0x9F ∷ []) [] []

abbrev pub dot : Recording
dot = recording (0x2E ∷ []) [] []

abbrev pub joining : List Call
joining = record { job = replace (replacement 2 2 0 2 ∷ []) (0x98 ∷ 0x80 ∷ []); room = roomy } ∷ record { job = pad_end 3 dot; room = roomy } ∷ []

pub record Joined : Type 0 where
  -- no text that is lent has a face
  pub none : TextsOf Other (cut_off.data_bytes ∷ (0x98 ∷ 0x80 ∷ []) ∷ dot.data_bytes ∷ [])
  -- what the first call leaves has one, so the second call answers otherwise
  pub now : run_by library joining cut_off ≡ recording (face ++ 0x2E ∷ []) [] []
  pub then : run_by before joining cut_off ≡ recording (face ++ 0x2E ∷ 0x2E ∷ []) [] []

-- THE REQUEST
pub record FacesAndTrucks : Type 0 where
  -- "our table reads 1 .. Both ranges get width 2"
  pub widths : (c : ℕ) → face_or_truck c ≡ true → (width_in nineteen_ranges c ≡ 1) × (char_width_of c ≡ 2)
  pub others : (c : ℕ) → Other c → char_width_of c ≡ width_in nineteen_ranges c
  -- "any call lent no text with such a character must answer as before"
  pub calls : SameOn (TextsOf Other) library before
  -- of running code: a call that has kept its contract of now has kept that of before
  pub running : AnsweredBy before (TextsOf Other)
  -- and a list of calls, each of which finds no such text
  pub lists : ListsAlike (TextsOf Other) library before
  pub rows : AsItWas
  pub joined : Joined

-- and the tally sheet, which came later
pub record TallyAsBefore : Type 0 where
  pub calls : TallySameOn (TextsOf Other) tally_outcome (By.tally_outcome (chars_by nineteen_ranges))
  pub running : TallyAnsweredBy (By.tally_outcome (chars_by nineteen_ranges)) (TextsOf Other)
  pub laid : By.laid_cell_of as_before_of (record { width = 3; alignment = 0 }) faces ≡ faces ++ 0x20 ∷ []
