-- Laws of the bytes of a scope (ListingLaws) and of the exported calls that start a scope (ExportedLaws).
mod ListingLaws
mod ExportedLaws
