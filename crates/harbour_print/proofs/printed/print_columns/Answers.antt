-- The print, in the layout.
use Rattle.harbour_print.proofs.PrintedLaws.{columns_read, page_read, columns_printed, page_printed}
use Rattle.harbour_print.proofs.printed.print_columns.Goals as goal

pub put_accepted-requires : goal.put_accepted-requires
put_accepted-requires c = let p = c.requires in columns_read p.reads p.room

pub put_page-requires : goal.put_page-requires
put_page-requires c = let p = c.requires in page_read p.reads p.room

pub returns-in-Columns : goal.returns-in-Columns
returns-in-Columns c =
    λ T R. columns_printed R c.requires.room c.in-Columns.is c.put_accepted.ensures

pub returns-in-Page : goal.returns-in-Page
returns-in-Page c =
    λ T R. page_printed R c.requires.room c.in-Page.is c.put_page.ensures
