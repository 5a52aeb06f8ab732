-- The finished result of a truncating call as the runs of its data, one after another: they are the data of the items that are written, and of the call's result.
-- So what stands in the buffer after the first run, and after all, is the finished result up to there (`first_held`, `all_held` of the writer).
use mathlib.Core.Path.{◌≡◌, refl, sym, ap, ◌∙◌}
use mathlib.Core.Bool.{Bool, true, false}
use mathlib.Core.List.{List, ◌++◌}
use Prim.Native.Nat.{ℕ, ◌-◌, ◌≤◌}
use lib.ListN.{length, take, drop, length-drop}
use lib.Seq.{length-take-le}
use Rattle.buffer.specs.Held.{HoldsUpTo}
use Rattle.recording.specs.Recording.{Recording, recording, Item, items, data_of}
use Rattle.recording.specs.Edit.{edit}
use Rattle.recording.proofs.EditLaws.{data_append}
use Rattle.recording.proofs.ItemsLaws.{data_items}
use Rattle.writer.specs.Write.{Out, add, blank}
use Rattle.writer.proofs.HeldLaws.{first_held, all_held}
use Rattle.layout.specs.Layout.{cut_end_of, cut_start_of, truncate_end, truncate_start, result_items}
use Rattle.truncate_plan.specs.declared.Plan.{Plan}
use Rattle.truncate_plan.specs.Plan.{plan_end, plan_start}
use Rattle.truncate.specs.Planned.{end_items, start_items, finished_end, finished_start}
use Rattle.truncate.proofs.CutLaws.{up_to_run, from_run}
use Rattle.truncate.proofs.PlanLaws.{end_whole, end_cut, start_whole, start_cut, end_items_lem, start_items_lem}

-- ── by the plan's test
module _ (p : Plan) (d e : List ℕ) where
  pub end_runs : p.cut ≡ true → finished_end p d e ≡ take p.content d ++ take p.ellipsis e
  unfolding finished_end
  end_runs z = rw z

  end_one : p.cut ≡ false → finished_end p d e ≡ d
  unfolding finished_end
  end_one z = rw z

  pub start_runs : p.cut ≡ true → finished_start p d e ≡ drop p.ellipsis e ++ drop p.content d
  unfolding finished_start
  start_runs z = rw z

  start_one : p.cut ≡ false → finished_start p d e ≡ drop p.content d
  unfolding finished_start
  start_one z = rw z

module _ (p : Plan) (r e : Recording) where
  abbrev ds : List ℕ
  ds = r.data_bytes

  abbrev es : List ℕ
  es = e.data_bytes

  -- ── the data of the items that are written
  end_finished : data_of (end_items p r e) ≡ finished_end p ds es
  end_finished = go p.cut refl
    where
      go : (t : Bool) → p.cut ≡ t → data_of (end_items p r e) ≡ finished_end p ds es
      go true z =
          ap (λ (l : List Item). data_of l) (end_cut p r e z) ∙ data_append (edit (cut_end_of p.content ds) (items r)) (edit (cut_end_of p.ellipsis es) (items e))
          ∙ (λ i. up_to_run p.content ds r.entry_numbers r.text i ++ up_to_run p.ellipsis es e.entry_numbers e.text i) ∙ sym (end_runs p ds es z)
      go false z = ap (λ (l : List Item). data_of l) (end_whole p r e z) ∙ data_items r ∙ sym (end_one p ds es z)

  start_finished : data_of (start_items p r e) ≡ finished_start p ds es
  start_finished = go p.cut refl
    where
      go : (t : Bool) → p.cut ≡ t → data_of (start_items p r e) ≡ finished_start p ds es
      go true z =
          ap (λ (l : List Item). data_of l) (start_cut p r e z) ∙ data_append (edit (cut_start_of p.ellipsis) (items e)) (edit (cut_start_of p.content) (items r))
          ∙ (λ i. from_run p.ellipsis es e.entry_numbers e.text i ++ from_run p.content ds r.entry_numbers r.text i) ∙ sym (start_runs p ds es z)
      go false z = ap (λ (l : List Item). data_of l) (start_whole p r e z) ∙ from_run p.content ds r.entry_numbers r.text ∙ sym (start_one p ds es z)

  -- ── what the data buffer holds, where the call began with od
  module _ (od oe ot : List ℕ) (o : Out) where
    -- after all
    pub end_held : o ≡ add (end_items p r e) (blank od oe ot) → (o.d ≡ length (finished_end p ds es)) × HoldsUpTo o.d (finished_end p ds es) od o.data_bytes
    end_held w = all_held (end_items p r e) (blank od oe ot) o refl w (finished_end p ds es) end_finished

    pub start_held : o ≡ add (start_items p r e) (blank od oe ot) → (o.d ≡ length (finished_start p ds es)) × HoldsUpTo o.d (finished_start p ds es) od o.data_bytes
    start_held w = all_held (start_items p r e) (blank od oe ot) o refl w (finished_start p ds es) start_finished

    -- after the first run
    pub end_first : p.cut ≡ true → p.content ≤ length ds → o ≡ add (edit (cut_end_of p.content ds) (items r)) (blank od oe ot)
        → (o.d ≡ p.content) × HoldsUpTo o.d (finished_end p ds es) od o.data_bytes
    end_first cut h w =
        let is = edit (cut_end_of p.content ds) (items r) in
        let run = up_to_run p.content ds r.entry_numbers r.text in
        let place = (all_held is (blank od oe ot) o refl w (take p.content ds) run).0 ∙ length-take-le p.content ds h in
        (place, first_held is (blank od oe ot) o refl w (take p.content ds) (take p.ellipsis es) (finished_end p ds es) run (end_runs p ds es cut))

    pub start_first : p.cut ≡ true → o ≡ add (edit (cut_start_of p.ellipsis) (items e)) (blank od oe ot)
        → (o.d ≡ length es - p.ellipsis) × HoldsUpTo o.d (finished_start p ds es) od o.data_bytes
    start_first cut w =
        let is = edit (cut_start_of p.ellipsis) (items e) in
        let run = from_run p.ellipsis es e.entry_numbers e.text in
        let place = (all_held is (blank od oe ot) o refl w (drop p.ellipsis es) run).0 ∙ length-drop p.ellipsis es in
        (place, first_held is (blank od oe ot) o refl w (drop p.ellipsis es) (drop p.content ds) (finished_start p ds es) run (start_runs p ds es cut))

-- ── the data of the call's result
module _ (p : Plan) (ds ns ts ds₂ ns₂ ts₂ : List ℕ) (max : ℕ) where
  pub end_result : p ≡ plan_end max ds ds₂ → data_of (result_items (truncate_end max (recording ds₂ ns₂ ts₂)) (recording ds ns ts)) ≡ finished_end p ds ds₂
  end_result q = ap (λ (l : List Item). data_of l) (end_items_lem max (recording ds ns ts) (recording ds₂ ns₂ ts₂) p q) ∙ end_finished p (recording ds ns ts) (recording ds₂ ns₂ ts₂)

  pub start_result : p ≡ plan_start max ds ds₂ → data_of (result_items (truncate_start max (recording ds₂ ns₂ ts₂)) (recording ds ns ts)) ≡ finished_start p ds ds₂
  start_result q = ap (λ (l : List Item). data_of l) (start_items_lem max (recording ds ns ts) (recording ds₂ ns₂ ts₂) p q) ∙ start_finished p (recording ds ns ts) (recording ds₂ ns₂ ts₂)
