-- What a truncating call is about to keep, from the data bytes alone: the places where the content and the ellipsis are cut, and the width kept.
use Rattle.std.specs.Prelude.{ℕ, ◌+◌, ◌-◌, true, false, cond, ltb, length}
use Rattle.chars.specs.Chars.{text_width_of}
use Rattle.chars.specs.Cut.{truncate_end_pos_of, truncate_end_width, truncate_start_width, zero_width_len_of}
use Rattle.recording.specs.Recording.{Bytes}
use Rattle.layout.specs.Layout.{trimmed_start_pos}
use Rattle.truncate_plan.specs.declared.Plan.{Plan}

unfoldable pub plan_end : ℕ → Bytes → Bytes → Plan
plan_end max d e =
    cond (ltb max (text_width_of d))
    (record { cut = true; content = truncate_end_pos_of (max - text_width_of e) d; ellipsis = truncate_end_pos_of max e; width = truncate_end_width (max - text_width_of e) d + truncate_end_width max e })
    (record { cut = false; content = length d; ellipsis = 0; width = text_width_of d })

unfoldable pub plan_start : ℕ → Bytes → Bytes → Plan
plan_start max d e =
    cond (ltb max (text_width_of d))
    (record { cut = true; content = trimmed_start_pos (max - text_width_of e) d; ellipsis = trimmed_start_pos max e; width = truncate_start_width max e + truncate_start_width (max - text_width_of e) d })
    (record { cut = false; content = zero_width_len_of d; ellipsis = length e; width = text_width_of d })
