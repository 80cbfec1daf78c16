-- The writer's rule as document 01 has it, with a flag for each open list and at most 200 of them, for the comparison with the rule of request 2.6, which
-- has one number in their place.
-- Assumes nothing.
use Rattle.std.specs.Prelude.{ℕ, ◌+◌, ◌*◌, ◌≡◌, refl, Bool, true, false, ◌&&◌, ◌||◌, not, cond, List, [], ◌∷◌, map, leb, ltb, eqb, replicate}
use Rattle.sise_util.specs.Chars.{within, one_of, is_atom_chr}
use Rattle.sise_util.specs.Classes.{class_of}
use Rattle.sise_util.specs.Atom.{is_atom, outside, inside, escaped}
use Rattle.sise_serializer.specs.Examples.{house}
use Rattle.sise_serializer.specs.Serializer.{Style, accepted, refused, Written, limit, fresh_serializer, lists_fit, last_break, refuse, place, first_list, Gap, new_line, nothing, space, gap_at, laid, inner_as, inner, phase_after, close_as, put_in, begin_in, end_in, finish_in}
use Rattle.sise_serializer.specs.declared.serializer.Phase.{Phase}
use Rattle.sise_serializer.specs.declared.serializer.Phase.TheVariants.{Beginning, Writing, Finished, Done}
use Rattle.sise_serializer.specs.declared.serializer.Serializer.{Serializer}
use Rattle.sise_serializer.specs.Calls.{Call, put_atom_call, begin_list_call, end_list_call, finish_call, is_accepted, largest, step}
use Rattle.sise_layout.specs.Texts.{Styled}

-- a record without the number of lists with a break in them: 0 stands in its place
unfoldable pub unnumbered : Serializer → Serializer
unnumbered w = record {
  position = w.position;
  lists = w.lists;
  broken = 0;
  line_len = w.line_len;
  spaces = w.spaces;
  breaks = w.breaks;
  indents = w.indents;
  phase = w.phase;
  list_beginning = w.list_beginning;
}

-- what a call comes to, but for that number: the record with its position and counts, the answer with its offset, and the bytes
unfoldable pub seen : Written → Written
seen d = record { serializer = unnumbered d.serializer; answer = d.answer; bytes = d.bytes }

-- "Sound: position at most 16,777,216; line length at most position; D at most 200, and at least 1 exactly in writing; spaces and breaks at most position,
-- breaks one more when done; indents at most 200 × (position + 1)"
unfoldable pub is_sound_to200 : Serializer → Bool
is_sound_to200 w =
    leb w.position limit
    && (leb w.line_len w.position
    && (leb w.lists 200
    && (lists_fit w.phase w.lists
    && (leb w.spaces w.position
    && (leb w.breaks (w.position + last_break w.phase)
    && leb w.indents (200 * (w.position + 1)))))))

-- ---- the flags of the open lists, the innermost list's first

abbrev pub is_broken : List Bool → Bool
is_broken [] = false
is_broken (b ∷ flags) = b

-- a new line: "the innermost list is broken"
abbrev pub marked_by : Gap → List Bool → List Bool
marked_by new_line [] = []
marked_by new_line (b ∷ flags) = true ∷ flags
marked_by nothing flags = flags
marked_by space flags = flags

-- "A broken child makes its parent broken; a closed list's flag is cleared"
abbrev pub closed : List Bool → List Bool
closed [] = []
closed (b ∷ []) = []
closed (b ∷ parent ∷ flags) = (b || parent) ∷ flags

-- the flags after an accepted call; "The new list isn't broken"
abbrev pub flags_after : Serializer → Call → List Bool → List Bool
flags_after w (put_atom_call a t) flags = marked_by (gap_at w t) flags
flags_after w (begin_list_call t) flags = false ∷ marked_by (gap_at w t) flags
flags_after w end_list_call flags = closed flags
flags_after w (finish_call wished) flags = flags

-- ---- the calls

-- "`begin_list`: 11, 19, 21, 22"; 21: "a list would be the 201st open"
unfoldable pub begin_to200 : Phase → Style → ℕ → Serializer → ℕ → Written
begin_to200 Beginning s room w t = begin_in Beginning s room w t
begin_to200 Writing s room w t = cond (ltb w.lists 200) (begin_in Writing s room w t) (refuse 21 w)
begin_to200 Finished s room w t = begin_in Finished s room w t
begin_to200 Done s room w t = begin_in Done s room w t

-- "`)`: if the innermost list is broken, line_break"
unfoldable pub end_by_flag : Phase → Style → ℕ → Serializer → List Bool → Written
end_by_flag Beginning s room w flags = end_in Beginning s room w
end_by_flag Writing s room w flags = place room w (close_as s w (is_broken flags))
end_by_flag Finished s room w flags = end_in Finished s room w
end_by_flag Done s room w flags = end_in Done s room w

-- a call on a sound record; atoms and finish look at no flag
unfoldable pub call_by_flags : Style → ℕ → Serializer → List Bool → Call → Written
call_by_flags s room w flags (put_atom_call a t) = cond (is_atom a) (put_in w.phase s room w a t) (refuse 17 w)
call_by_flags s room w flags (begin_list_call t) = begin_to200 w.phase s room w t
call_by_flags s room w flags end_list_call = end_by_flag w.phase s room w flags
call_by_flags s room w flags (finish_call wished) = finish_in w.phase s room w wished

unfoldable pub step_by_flags : Style → ℕ → Serializer → List Bool → Call → Written
step_by_flags s room w flags c = seen (cond (is_sound_to200 w) (call_by_flags s room w flags c) (refuse 11 w))

-- ---- what each of a list of calls comes to, every call with a style and a buffer of its own: by the flags, on records without the number; and by the number

unfoldable pub by_flags : Serializer → List Bool → List Styled → List Written
by_flags w flags [] = []
by_flags w flags (c ∷ cs) =
    let r = step_by_flags c.style c.room w flags c.call in
    r ∷ by_flags r.serializer (cond (is_accepted r.answer) (flags_after w c.call flags) flags) cs

unfoldable pub by_number : Serializer → List Styled → List Written
by_number w [] = []
by_number w (c ∷ cs) =
    let r = step c.style c.room w c.call in
    seen r ∷ by_number r.serializer cs

-- "within 200 open lists": no call meets 21
unfoldable pub is_not21 : Written → Bool
is_not21 d = elim d.answer [ accepted o ↦ true | refused n ↦ not (eqb n 21) ]

-- ---- worked examples: `(`, `(`, `a` at 0 and two `)` by the flags, in house style; and a 201st list

in_house : Call → Styled
in_house c = record { style = house; room = 40; call = c }

two_broken : map (λ (d : Written). d.bytes) (by_flags fresh_serializer [] (map in_house (begin_list_call 0 ∷ begin_list_call largest ∷ put_atom_call (97 ∷ []) 0 ∷ end_list_call ∷ end_list_call ∷ [])))
    ≡ (40 ∷ []) ∷ (40 ∷ []) ∷ (10 ∷ 32 ∷ 32 ∷ 32 ∷ 32 ∷ 97 ∷ []) ∷ (10 ∷ 32 ∷ 32 ∷ 41 ∷ []) ∷ (10 ∷ 41 ∷ []) ∷ []
unfolding in_house house by_flags step_by_flags call_by_flags begin_to200 end_by_flag is_sound_to200 seen unnumbered fresh_serializer place first_list laid inner_as inner phase_after close_as put_in begin_in is_atom outside inside escaped class_of is_atom_chr one_of within
two_broken = refl

-- a record of 200 lists, each with its byte
deep : Serializer
deep = record {
  position = 200;
  lists = 200;
  broken = 0;
  line_len = 200;
  spaces = 0;
  breaks = 0;
  indents = 0;
  phase = Writing;
  list_beginning = true;
}

one_too_many : (step_by_flags house 300 deep (replicate 200 false) (begin_list_call largest)).answer ≡ refused 21
unfolding deep step_by_flags call_by_flags begin_to200 is_sound_to200 seen
one_too_many = refl
