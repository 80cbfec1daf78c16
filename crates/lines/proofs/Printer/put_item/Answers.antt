-- Each kind of item has its letter and numbers.
use Rattle.std.proofs.Common.{◌≡◌, ◌∙◌, ◌∷◌, sym, ap}
use Rattle.sise_parser.specs.declared.reader.ParsedItem.{ParsedItem}
use Rattle.lines.specs.Put.{Output, put, number, item_text}
use Rattle.lines.proofs.Laws.{put_both}
use Rattle.lines.proofs.Printer.put_item.Goals as goal

-- what is put for the item that it is
put_as_lem : {i j : ParsedItem} {p : Output} (o : Output) → i ≡ j → p ≡ put o (item_text j) → p ≡ put o (item_text i)
put_as_lem o e h = h ∙ ap (λ (x : ParsedItem). put o (item_text x)) (sym e)

pub returns-in-ListStart : goal.returns-in-ListStart
unfolding item_text
returns-in-ListStart c = put_as_lem _ c.in-ListStart.is c.put_letter.ensures

pub returns-in-Atom : goal.returns-in-Atom
unfolding item_text
returns-in-Atom c =
    put_as_lem _
    c.in-Atom.is
    (put_both _ (_ ∷ number _) (number _) c.put_letter-in-Atom.ensures c.put_number.ensures)

pub returns-in-ListEnd : goal.returns-in-ListEnd
unfolding item_text
returns-in-ListEnd c = put_as_lem _ c.in-ListEnd.is c.put_letter-in-ListEnd.ensures
