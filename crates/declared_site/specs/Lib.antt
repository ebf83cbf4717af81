pub mod SiteOf
