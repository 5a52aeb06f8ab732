-- What `specs/Theorem.antt` states, put together from the laws: the theorem on two recordings (`theorem`, and `running` of two calls), each reader's laws (`readers`), and a view after a list of calls
-- (`after_calls`). The idea of the last: a list of calls leaves a recording that is balanced, and demand 3 gives its coloured bytes.
use mathlib.Core.Bool.{Bool, true, false}
use mathlib.Core.Path.{◌≡◌, refl, sym, ap, ◌∙◌}
use mathlib.Core.List.{List, [], ◌∷◌, append-nil}
use lib.Dec.{eqb}
use borrow.Author.Tests.{eqb-true}
use Rattle.chars.specs.Chars.{chars}
use Rattle.recording.specs.Recording.{Bytes, Recording}
use Rattle.recording.specs.Coloured.{Coloured, coloured, balanced, values}
use Rattle.recording.specs.Refusals.{recording_fault}
use Rattle.recording.proofs.ItemsLaws.{values_of}
use Rattle.layout.specs.Layout.{Call, refusal, after, run}
use Rattle.layout.specs.Theorem.{Demand3}
use Rattle.layout.proofs.ListLaws.{after_refused}
use Rattle.layout.proofs.LeftLaws.{left_valid}
use Rattle.layout.proofs.Demand3.{bal_run, demand3}
use Rattle.view.specs.Theorem.{floor_coloured, Theorem, Running, Readers, AfterCalls}
use Rattle.view.proofs.DropLaws.{entries_stay}
use Rattle.view.proofs.AbsentLaws.{absent_label}
use Rattle.view.proofs.AlikeLaws.{floors_agree, running_agrees}
use Rattle.view.proofs.ColourLaws.{floor_colours, floor_starred}
use Rattle.view.proofs.OutcomeLaws.{office_replay, content_first, turned_away, floor_clean, balance_stays}
use Rattle.view.proofs.SizeLaws.{data_bound, entries_bound, text_bound}
use Rattle.view.proofs.NewlineLaws.{floor_newlines, floor_newlines_labels}

pub theorem : Theorem
theorem = floors_agree

pub running : Running
running = running_agrees

pub readers : (l : Bytes) (r : Recording) → Readers l r
readers l r =
    record {
      colours = floor_colours l r;
      starred = floor_starred l r;
      newlines_stay = floor_newlines l r;
      newlines_labels = floor_newlines_labels l r;
      entries = entries_stay l r;
      absent = absent_label l r;
      clean = λ o x e. floor_clean l o r x e;
      balance = balance_stays l r;
      shorter = (data_bound l r, entries_bound l r, text_bound l r);
      office = office_replay l r;
      checks = content_first l r;
      turned = turned_away l r;
    }

-- ── what a list of calls leaves passes the checks
clean_after : (c : Call) (r : Recording) → recording_fault r ≡ 0 → recording_fault (after c r) ≡ 0
clean_after c r h = go (eqb (refusal c r) 0) refl
  where
    go : (t : Bool) → eqb (refusal c r) 0 ≡ t → recording_fault (after c r) ≡ 0
    go true e = left_valid c r (eqb-true (refusal c r) 0 e)
    go false e = rw (after_refused c r e) h

clean_run : (calls : List Call) (r : Recording) → recording_fault r ≡ 0 → recording_fault (run calls r) ≡ 0
clean_run [] r h = h
clean_run (c ∷ cs) r h = clean_run cs (after c r) (clean_after c r h)

pub after_calls : AfterCalls
after_calls l calls r a h p =
    let d : Demand3 calls r = demand3 calls r h p in
    let b : balanced (run calls r) ≡ true = bal_run calls [] r h (rw (append-nil calls) p) in
    record {
      demand3 = d;
      accepted = clean_run calls r a;
      balance = b;
      colours =
          floor_colours l (run calls r) b ∙ ap (λ (t : Bytes). floor_coloured l (chars t) (coloured (run calls r))) (sym (values_of (run calls r)))
          ∙ ap (λ (cs : List Coloured). floor_coloured l (chars (values cs)) cs) d.colours;
    }
